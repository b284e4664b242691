use Rattle.std.proofs.Common.{◌≡◌, drop}
use Rattle.ks_history.specs.State.{has_task}
use Rattle.ks_worker_state.specs.State.{task_names}
use Rattle.ks_worker_turn.proofs.lists.has_task_of.Given as goal

-- the tasks that are left decide
abbrev pub invariant-loop-other : goal.invariant-loop-other
invariant-loop-other l = has_task l.task (task_names (drop l.other-index l.tasks)) ≡ has_task l.task (task_names l.tasks)
