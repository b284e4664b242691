use Rattle.std.proofs.Common.{ap, sym, ◌∙◌, arith}
use Rattle.std.proofs.lemmas.Result.{IfOk-weaker}
use Rattle.ks_topo.specs.Topologies.{draft_of}
use Rattle.ks_cluster.specs.View.{setup_of}
use Rattle.ks_audit_commit.specs.Naming.{offset_named}
use Rattle.ks_audit_commit.proofs.Ordered.{named_taker, run_of_none, run_of_no_input, run_taken}
use Rattle.ks_audit_commit.proofs.ordering.take_named.Goals as goal

pub returns-then-count-eq0 : goal.returns-then-count-eq0
returns-then-count-eq0 g c =
    run_of_none (draft_of c.args.topology.now) (setup_of g.W.Work.plan c.args.cluster.now) c.args.cluster.now.journal c.args.pending.now c.args.run.0 c.args.run.1 c.args.task.now c.requires.taking c.if-count-eq0.true

pub take_run-requires-clause-taker : goal.take_run-requires-clause-taker
take_run-requires-clause-taker g c =
    named_taker (draft_of c.args.topology.now) (setup_of g.W.Work.plan c.args.cluster.now) c.args.cluster.now.journal c.args.pending.now c.args.run.0 c.in-Some.upto c.args.task.now c.requires.taking
    (ap (offset_named c.args.run.0) (sym c.as_slice.ensures) ∙ sym c.offset_of.ensures ∙ c.in-Some.is)

pub returns-in-Some : goal.returns-in-Some
returns-in-Some g c =
    IfOk-weaker c.take_run.result _ _ (λ done h.
    run_taken (draft_of c.args.topology.now) (setup_of g.W.Work.plan c.args.cluster.now) c.args.cluster.now.journal c.args.pending.now (g.met.W.Work.network _) c.args.run.0 c.args.run.1 c.in-Some.upto done c.args.task.now c.take_run.new.task
    c.requires.taking (ap (offset_named c.args.run.0) (sym c.as_slice.ensures) ∙ sym c.offset_of.ensures ∙ c.in-Some.is) h) c.take_run.ensures

pub returns-in-None : goal.returns-in-None
returns-in-None g c =
    run_of_no_input (draft_of c.args.topology.now) (setup_of g.W.Work.plan c.args.cluster.now) c.args.cluster.now.journal c.args.pending.now (g.met.W.Work.network _) c.args.run.0 c.args.run.1 c.args.task.now c.requires.taking
    (omega (arith, c.if-count-eq0.false)) (ap (offset_named c.args.run.0) (sym c.as_slice.ensures) ∙ sym c.offset_of.ensures ∙ c.in-None.is)
