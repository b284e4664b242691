use Rattle.std.proofs.Common.{◌≡◌, ◌+◌, drop}
use Rattle.ks_group.specs.Pending.{pending_place}
use Rattle.ks_group.proofs.pending.place_of.Given as goal

abbrev pub invariant-loop-p : goal.invariant-loop-p
invariant-loop-p l = (l.at + pending_place l.task (drop l.p-index l.pending) ≡ pending_place l.task l.pending) × (l.at ≡ l.p-index)
