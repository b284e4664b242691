use Rattle.std.proofs.Common.{◌≡◌, ◌≤◌, length, drop}
use Rattle.ks_worker_commit.specs.Leaves.{ends_for}
use Rattle.ks_worker_commit.proofs.ends.ends_of_task.Given as goal

abbrev pub invariant-loop-left : goal.invariant-loop-left
invariant-loop-left l = (l.own.items ≡ ends_for l.task (drop l.left l.ends)) × (l.left ≤ length l.ends)

abbrev pub decreases-loop-left : goal.decreases-loop-left
decreases-loop-left l = l.left
