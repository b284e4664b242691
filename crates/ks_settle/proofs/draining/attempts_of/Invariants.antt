use Rattle.std.proofs.Common.{◌≡◌, ◌++◌}
use Rattle.ks_settle.specs.Drained.{tasks_in}
use Rattle.ks_settle.proofs.draining.attempts_of.Given as goal

-- the tasks so far
abbrev pub invariant-loop-task : goal.invariant-loop-task
invariant-loop-task l = tasks_in l.attempts.items ++ l.task-iterator.rest.items ≡ l.fn.tasks.items
