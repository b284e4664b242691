-- The names of what a worker holds.
use Rattle.std.specs.Prelude.{ℕ, ◌+◌, ◌≤◌, if◌then◌else◌, List, [], ◌∷◌, map}
use Rattle.ks_record.specs.declared.record.TaskId.{TaskId}
use Rattle.ks_record.specs.Parts.{same_task}
use Rattle.ks_standby.specs.declared.replica.Replica.{Replica}
use Rattle.ks_task.specs.declared.task.Task.{Task}
use Rattle.ks_task.specs.Tasks.{task_view}

abbrev pub task_names : List Task → List TaskId
task_names tasks = map (λ t. (task_view t).task) tasks

abbrev pub replica_names : List Replica → List TaskId
replica_names replicas = map (λ (r : Replica). r.id) replicas

-- how often a name stands in a list
abbrev pub times : TaskId → List TaskId → ℕ
times t [] = 0
times t (u ∷ us) = (if same_task t u then 1 else 0) + times t us

-- no two of these tasks and replicas have one name
abbrev pub AreHeldOnce : List Task → List Replica → Type 0
AreHeldOnce tasks replicas = (t : TaskId) → times t (task_names tasks) + times t (replica_names replicas) ≤ 1
