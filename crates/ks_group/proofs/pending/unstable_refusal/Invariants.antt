use Rattle.std.proofs.Common.{◌≡◌, drop}
use Rattle.ks_group.specs.Pending.{unstable_in, counts_for}
use Rattle.ks_group.proofs.pending.unstable_refusal.Given as goal

abbrev pub invariant-loop-pending : goal.invariant-loop-pending
invariant-loop-pending l = (unstable_in l.task (counts_for l.except) l.v (drop l.pending-index l.all) ≡ unstable_in l.task (counts_for l.except) 0 l.all) × (l.v ≡ l.pending-index)
