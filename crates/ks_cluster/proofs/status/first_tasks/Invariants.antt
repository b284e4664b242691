use Rattle.std.proofs.Common.{◌≡◌, ◌++◌, drop}
use Rattle.std.specs.Prelude.{None}
use Rattle.ks_cluster.specs.Statuses.{firsts_from}
use Rattle.ks_cluster.proofs.status.first_tasks.Given as goal

abbrev pub invariant-loop-task : goal.invariant-loop-task
invariant-loop-task l = l.firsts.items ++ firsts_from l.last (drop l.task-index l.tasks) ≡ firsts_from None l.tasks
