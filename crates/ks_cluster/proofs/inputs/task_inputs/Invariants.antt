use Rattle.std.proofs.Common.{◌≡◌, ◌++◌, map, drop}
use Rattle.ks_group.specs.Committed.{none_committed}
use Rattle.ks_cluster.specs.Moves.{first_rows}
use Rattle.ks_cluster.proofs.inputs.task_inputs.Given as goal

abbrev pub invariant-loop-task : goal.invariant-loop-task
invariant-loop-task g l =
    (map (λ t. t.task) l.made.items ++ drop l.task-index l.tasks ≡ l.tasks)
    × (map (λ t. (t.task, none_committed t.inputs.items)) l.made.items ++ first_rows (g.W.Work.plan l.work) (drop l.task-index l.tasks) ≡ first_rows (g.W.Work.plan l.work) l.tasks)
