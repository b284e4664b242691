use Rattle.std.proofs.Common.{◌≡◌, ◌++◌, length}
use Rattle.ks_topo.specs.Topologies.{plan_in}
use Rattle.ks_plan.specs.Infos.{drain_numbers}
use Rattle.ks_cluster.specs.View.{setup_of, state_of}
use Rattle.ks_settle_report.specs.Report.{lags_of}
use Rattle.ks_settle_report.proofs.lags.lags_in.Given as goal

-- those so far, with those of the topics that are left
abbrev pub invariant-loop-rest : goal.invariant-loop-rest
invariant-loop-rest g l =
    let setup = setup_of g.W.Work.plan l.cluster in
    let s = state_of g.W.Work.plan l.cluster in
    l.lags.items ++ lags_of setup s l.rest ≡ lags_of setup s (drain_numbers (plan_in l.topology))

abbrev pub decreases-loop-rest : goal.decreases-loop-rest
decreases-loop-rest g l = length l.rest
