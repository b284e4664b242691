use Rattle.std.proofs.Common.{◌≡◌, ◌++◌, drop}
use Rattle.ks_commit.specs.Everything.{at_worker}
use Rattle.ks_commit.proofs.publisher.all_active.Given as goal

abbrev pub invariant-loop-task : goal.invariant-loop-task
invariant-loop-task l = l.active.items ++ at_worker l.worker (drop l.task-index l.tasks) ≡ at_worker l.worker l.tasks
