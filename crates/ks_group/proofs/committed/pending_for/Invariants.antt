use Rattle.std.proofs.Common.{◌≡◌, drop}
use Rattle.ks_history.specs.State.{pending_of}
use Rattle.ks_group.proofs.committed.pending_for.Given as goal

abbrev pub invariant-loop-p : goal.invariant-loop-p
invariant-loop-p l = pending_of l.task (drop l.p-index l.pending) ≡ pending_of l.task l.pending
