use Rattle.std.proofs.Common.{◌≡◌, length}
use Rattle.ks_history.specs.History.{are_offsets}
use Rattle.ks_cluster.specs.View.{setup_of, state_of}
use Rattle.ks_audit_entry.proofs.conditions.Conditions.are_offsets.Given as goal

abbrev pub invariant-loop-rest : goal.invariant-loop-rest
invariant-loop-rest g l =
    let setup = setup_of g.W.Work.plan l.cluster in
    let s = state_of g.W.Work.plan l.cluster in
    are_offsets setup s l.task l.rest ≡ are_offsets setup s l.task l.offsets

abbrev pub decreases-loop-rest : goal.decreases-loop-rest
decreases-loop-rest g l = length l.rest
