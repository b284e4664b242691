use Rattle.std.proofs.Common.{◌≡◌, ◌≤◌, drop, length}
use Rattle.ks_history.specs.Step.{badly_placed}
use Rattle.ks_group.proofs.group.misplaced_task.Given as goal

abbrev pub invariant-loop-i : goal.invariant-loop-i
invariant-loop-i l = (l.found ≡ badly_placed (drop l.i l.tasks) l.members l.active) × (l.i ≤ length l.tasks)

abbrev pub decreases-loop-i : goal.decreases-loop-i
decreases-loop-i l = l.i
