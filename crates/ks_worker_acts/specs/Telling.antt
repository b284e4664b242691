-- What a worker tells its group, and what it leaves (KIP-441: the positions that members hold).
use Rattle.std.specs.Prelude.{◌≡◌, ◌+◌, ◌-◌, ◌^◌, ℕ, Bool, false, min, List, [], ◌∷◌, ◌++◌, map}
use Rattle.std.specs.List.{All, filter}
use Rattle.ks_record.specs.declared.record.TaskId.{TaskId}
use Rattle.ks_plan.specs.Drafts.{DraftView}
use Rattle.ks_history.specs.declared.journal.Entry.{Entry}
use Rattle.ks_history.specs.declared.journal.Request.{Request}
use Rattle.ks_history.specs.declared.journal.Request.TheVariants.{Park}
use Rattle.ks_history.specs.State.{Setup}
use Rattle.ks_standby.specs.declared.replica.Replica.{Replica}
use Rattle.ks_standby.specs.Replicas.{position_sum}
use Rattle.ks_task.specs.declared.task.Task.{Task}
use Rattle.ks_task.specs.Tasks.{task_view}
use Rattle.ks_worker_client.specs.declared.member.Member.{Member}
use Rattle.ks_worker_state.specs.Standbys.{IsStandby}
use Rattle.ks_worker_state.specs.Tasks.{IsHeldTask}
pub use Rattle.ks_worker_state.specs.Tasks.{is_clean_task}
use Rattle.ks_worker_state.specs.Topology.{RunsTopology}
use Rattle.ks_worker_state.specs.State.{task_names, replica_names}

-- a member that left: it has no epoch, and keeps its generation
abbrev pub outside : Member → Member
outside m = record m { epoch = 0; is_member = false }

-- a `park` of each of these tasks
abbrev pub parks : ℕ → List TaskId → List Request
parks instance tasks = map (λ t. Park instance t) tasks

-- the clean ones of these tasks left replicas: they stand behind the old ones, and follow what their worker's pass has seen
pub record RestsOnto (tasks : List Task) (old new : List Replica) : Type 0 where
  pub names : replica_names new ≡ replica_names old ++ task_names (filter is_clean_task tasks)
  pub standbys : (hash : List ℕ → ℕ) (d : DraftView) (setup : Setup) (journal : List Entry) (m : Member) (last : ℕ) → RunsTopology hash d setup →
      All (IsHeldTask d setup journal m last) tasks → All (IsStandby setup journal) old → All (IsStandby setup journal) new

-- ---- positions
abbrev pub total : (ℕ → ℕ) → List ℕ → ℕ
total position [] = 0
total position (topic ∷ topics) = position topic + total position topics

-- the sum of the positions stops at the greatest u64
abbrev pub position_total : (ℕ → ℕ) → List ℕ → ℕ
position_total position topics = min (total position topics) (2 ^ 64 - 1)

abbrev pub task_positions : (ℕ → List ℕ) → List Task → List (TaskId × ℕ)
task_positions changelogs tasks = map (λ t. ((task_view t).task, position_total (task_view t).position (changelogs (task_view t).task.sub))) tasks

abbrev pub replica_positions : List Replica → List (TaskId × ℕ)
replica_positions replicas = map (λ (r : Replica). (r.id, position_sum r.changelogs.items)) replicas

abbrev pub positions_held : (ℕ → List ℕ) → List Task → List Replica → List (TaskId × ℕ)
positions_held changelogs tasks replicas = task_positions changelogs tasks ++ replica_positions replicas
