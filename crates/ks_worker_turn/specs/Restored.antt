-- Which of a worker's places are tasks (KIP-441: an active task is restored before it runs).
use Rattle.std.specs.Prelude.{◌≡◌, ◌⊎◌, ℕ, max, true, List}
use Rattle.ks_record.specs.declared.record.TaskId.{TaskId}
use Rattle.ks_record.specs.declared.assignment.Assignment.{Assignment}
use Rattle.ks_history.specs.Machine.{TaskPlan}
use Rattle.ks_history.specs.State.{has_task}
use Rattle.ks_standby.specs.declared.replica.Replica.{Replica}
use Rattle.ks_worker_state.specs.declared.state.WorkerState.{WorkerState}
use Rattle.ks_worker_state.specs.Names.{task_names}
use Rattle.ks_worker_state.specs.Restoring.{IsGivenBack}
use Rattle.ks_worker_turn.specs.Held.{HasTakenPlaces}
use Rattle.ks_worker_turn.specs.Lists.{AreAmong}
use Rattle.ks_worker_turn.specs.Places.{has_place}

-- each task that it had it has, with what is in it
abbrev pub KeepsTasks : {W G : Type 0} → WorkerState W G → WorkerState W G → Type 0
KeepsTasks old new = AreAmong old.tasks.items new.tasks.items

-- its replica of this task was given back since
pub record IsKeptBack {W G : Type 0} (plan : W → TaskPlan) (old new : WorkerState W G) (t : TaskId) : Type 0 where
  pub replica : Replica
  pub named : replica.id ≡ t
  pub back : IsGivenBack plan old.session.client.pass new.session.client.pass new.member.number new.member.generation replica

-- it has the task, or can't have it yet
abbrev pub IsRestored : {W G : Type 0} → (W → TaskPlan) → TaskId → WorkerState W G → WorkerState W G → Type 0
IsRestored plan t old new = (has_task t (task_names new.tasks.items) ≡ true) ⊎ IsKeptBack plan old new t

-- so each of these tasks that is active with the worker, where it is a member
abbrev pub HasRestored : {W G : Type 0} → (W → TaskPlan) → Assignment → List TaskId → WorkerState W G → WorkerState W G → Type 0
HasRestored plan a tasks old new = (t : TaskId) → has_task t tasks ≡ true → has_place t old.member.number a.active ≡ true → old.member.is_member ≡ true → IsRestored plan t old new

-- it took its places of a generation's assignment, which is its own now if it is newer: it has the tasks that it had, and each one that
-- is active with it is a task, or can't be yet
pub record HasTakenAll {W G : Type 0} (plan : W → TaskPlan) (tasks : List TaskId) (generation : ℕ) (a : Assignment) (old new : WorkerState W G) : Type 0 where
  pub member : new.member ≡ record old.member { generation = max old.member.generation generation }
  pub taken : HasTakenPlaces tasks generation a old new
  pub kept : KeepsTasks old new
  pub restored : HasRestored plan a tasks old new
