use Rattle.std.proofs.Common.{◌≡◌, ◌+◌, ◌≤◌, length}
use Rattle.std.specs.Prelude.{min, ◌^◌, ◌-◌}
use Rattle.ks_worker.specs.View.{uncommitted_by}
use Rattle.ks_worker.proofs.view.uncommitted_of.Given as goal

abbrev pub invariant-loop-rest : goal.invariant-loop-rest
invariant-loop-rest l = (min (l.sum + uncommitted_by l.rest) (2 ^ 64 - 1) ≡ min (uncommitted_by l.tasks) (2 ^ 64 - 1)) × (l.sum ≤ 2 ^ 64 - 1)

abbrev pub decreases-loop-rest : goal.decreases-loop-rest
decreases-loop-rest l = length l.rest
