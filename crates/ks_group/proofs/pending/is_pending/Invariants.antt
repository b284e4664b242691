use Rattle.std.proofs.Common.{◌≡◌, drop}
use Rattle.ks_group.specs.Pending.{is_pending}
use Rattle.ks_group.proofs.pending.is_pending.Given as goal

abbrev pub invariant-loop-p : goal.invariant-loop-p
invariant-loop-p l = is_pending l.task (drop l.p-index l.pending) ≡ is_pending l.task l.pending
