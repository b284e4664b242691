use Rattle.std.proofs.Common.{◌≡◌, ◌<◌, ◌^◌, drop}
use Rattle.ks_history.specs.Step.{with_late}
use Rattle.ks_group.proofs.pending.late_with.Given as goal

abbrev pub invariant-loop-p : goal.invariant-loop-p
invariant-loop-p l = (with_late l.sum (drop l.p-index l.pending) ≡ with_late l.late l.pending) × (l.sum < 2 ^ 64)
