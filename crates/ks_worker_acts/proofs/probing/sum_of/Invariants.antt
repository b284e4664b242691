use Rattle.std.proofs.Common.{◌≡◌, ◌+◌, ◌≤◌, length}
use Rattle.std.specs.Prelude.{min, ◌^◌, ◌-◌}
use Rattle.ks_task.specs.Tasks.{task_view}
use Rattle.ks_worker_acts.specs.Telling.{total, position_total}
use Rattle.ks_worker_acts.proofs.probing.sum_of.Given as goal

-- what is summed, and what the topics that are left have, are all
abbrev pub invariant-loop-rest : goal.invariant-loop-rest
invariant-loop-rest l = (min (l.sum + total (task_view l.task).position l.rest) (2 ^ 64 - 1) ≡ position_total (task_view l.task).position l.changelogs) × (l.sum ≤ 2 ^ 64 - 1)

abbrev pub decreases-loop-rest : goal.decreases-loop-rest
decreases-loop-rest l = length l.rest
