-- Tasks that rest: of each clean one its replica is left (KIP-441: a task goes back to a standby).
use Rattle.std.specs.Prelude.{◌≡◌, ◌+◌, ◌||◌, ◌⊎◌, ℕ, Bool, true, false, not, nat_lt, List, []}
use Rattle.std.specs.List.{All, Contains, filter}
use Rattle.ks_record.specs.declared.record.TaskId.{TaskId}
use Rattle.ks_plan.specs.Drafts.{DraftView}
use Rattle.ks_history.specs.declared.journal.Entry.{Entry}
use Rattle.ks_history.specs.State.{Setup}
use Rattle.ks_standby.specs.declared.replica.Replica.{Replica}
use Rattle.ks_law_restore.specs.Replicas.{rested_view}
use Rattle.ks_standby.specs.Replicas.{replica_view}
use Rattle.ks_task.specs.declared.task.Task.{Task}
use Rattle.ks_task.specs.Tasks.{task_view, IsClean}
use Rattle.ks_worker_client.specs.declared.member.Member.{Member}
use Rattle.ks_worker_state.specs.Names.{task_names, replica_names, times}
use Rattle.ks_worker_state.specs.Standbys.{IsStandby}
use Rattle.ks_worker_state.specs.Tasks.{IsHeldTask, is_clean_task}
use Rattle.ks_worker_state.specs.Topology.{RunsTopology}

-- where a worker holds these tasks and its replicas follow, the new replicas follow
abbrev pub KeepsStandbys : List Task → List Replica → List Replica → Type 0
KeepsStandbys ts old new = (hash : List ℕ → ℕ) (d : DraftView) (setup : Setup) (journal : List Entry) (m : Member) (last : ℕ) →
    RunsTopology hash d setup → All (IsHeldTask d setup journal m last) ts →
    All (IsStandby setup journal) old → All (IsStandby setup journal) new

-- the replica that a clean one of these tasks is
pub record IsLeftBy (ts : List Task) (r : Replica) : Type 0 where
  pub task : Task
  pub among : Contains ts task
  pub clean : IsClean (task_view task)
  pub view : replica_view r ≡ rested_view (task_view task)

-- of these tasks each clean one left its replica, beside the old ones, and all follow; there are no others
pub record HaveLeft (ts : List Task) (old new : List Replica) : Type 0 where
  pub names : (t : TaskId) → times t (replica_names new) ≡ times t (replica_names old) + times t (task_names (filter is_clean_task ts))
  pub standbys : KeepsStandbys ts old new
  pub are : All (λ r. Contains old r ⊎ IsLeftBy ts r) new

-- a generation is over for a worker: there is a newer one than its own, or the group doesn't list it any more
abbrev pub is_generation_over : ℕ → ℕ → Bool → Bool
is_generation_over own generation listed = nat_lt own generation || not listed

-- where the generation is over all tasks rested; else tasks and replicas are the same
abbrev pub HaveRested : Bool → List Task → List Replica → List Task → List Replica → Type 0
HaveRested true ts rs left new = (left ≡ []) × HaveLeft ts rs new
HaveRested false ts rs left new = (left ≡ ts) × (new ≡ rs)
