use Rattle.std.proofs.Common.{sym, ap, ◌∙◌}
use Rattle.ks_topo.specs.Topologies.{draft_of}
use Rattle.ks_def_tasks.specs.Rules.{rules_of}
use Rattle.ks_cluster.specs.View.{setup_of, state_of}
use Rattle.ks_run_audit.proofs.Ends.{none_printed, report_fault, table_fault}
use Rattle.ks_run_audit.proofs.ending.judge_cluster.Goals as goal

pub first_wrong-wrong-requires : goal.first_wrong-wrong-requires
first_wrong-wrong-requires g c = λ none.
    c.requires.lines (none_printed (draft_of c.args.topology.now) (state_of g.W.Work.plan c.args.cluster.now) c.in_ok-tables.tables.items c.in_ok-tables.ensures (sym c.as_slice.ensures.value ∙ none))

pub returns-in-Some-clause-wrong : goal.returns-in-Some-clause-wrong
returns-in-Some-clause-wrong g c =
    let r = c.in_ok-report.ensures in
    report_fault (rules_of g.H.Hash128.hash_of) (draft_of c.args.topology.now) (setup_of g.W.Work.plan c.args.cluster.now) (state_of g.W.Work.plan c.args.cluster.now) c.args.lines.now c.in_ok-report.report r.settled r.unsettled r.lags r.pending r.late r.collision
    c.in-Some.fault (rw c.in-Some.is at c.fault_of_report-shown.ensures.fault)

pub returns-in-Some-2-clause-wrong : goal.returns-in-Some-2-clause-wrong
returns-in-Some-2-clause-wrong g c =
    let r = c.in_ok-report.ensures in
    let none = c.in_default.is in
    table_fault (rules_of g.H.Hash128.hash_of) (draft_of c.args.topology.now) (setup_of g.W.Work.plan c.args.cluster.now) (state_of g.W.Work.plan c.args.cluster.now) c.args.lines.now c.in_ok-report.report c.as_slice.result.now c.in-Some-2.name
    r.settled (c.fault_of_report-shown.ensures.settled none) r.collision (c.fault_of_report-shown.ensures.alone none) r.late (c.fault_of_report-shown.ensures.in_time none) (c.as_slice.ensures.value ∙ c.in_ok-tables.ensures) (rw c.in-Some-2.is at c.in_ok-name.ensures.wrong)
