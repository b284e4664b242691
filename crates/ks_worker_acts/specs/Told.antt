-- Tasks that are told that their works are committed.
use Rattle.std.specs.Prelude.{◌≡◌, ◌⊎◌, ◌<◌, ℕ, List, length, slice_index_or}
use Rattle.ks_record.specs.declared.record.PartId.{PartId}
use Rattle.ks_record.specs.declared.record.TaskId.{TaskId}
use Rattle.ks_plan.specs.Drafts.{DraftView}
use Rattle.ks_plan.specs.Plan.{plan_of}
use Rattle.ks_plan.specs.Infos.{changelog_numbers}
use Rattle.ks_law_restore.specs.Views.{committed_view}
use Rattle.ks_task.specs.declared.task.Task.{Task}
use Rattle.ks_task.specs.Views.{own_ends}
use Rattle.ks_task.specs.Tasks.{task_view, IsTaskOf}
use Rattle.ks_worker_commit.specs.Leaves.{ends_for}
use Rattle.ks_worker_state.specs.State.{task_names}
use Rattle.ks_worker_acts.specs.Works.{IsCleanTask, IsDirtyTask}

-- its work is committed, and its records end where these say
pub record IsCommittedTask (d : DraftView) (ends : List (TaskId × PartId × ℕ)) (old new : Task) : Type 0 where
  pub of : IsTaskOf d new
  pub view : task_view new ≡ committed_view (task_view old) (own_ends (changelog_numbers (plan_of d) (task_view old).task.sub) (ends_for (task_view old).task ends))
  pub cache : new.cache ≡ old.cache

abbrev pub IsToldTask : DraftView → List (TaskId × PartId × ℕ) → Task → Task → Type 0
IsToldTask d ends old new = (IsCleanTask old × (new ≡ old)) ⊎ (IsDirtyTask old × IsCommittedTask d ends old new)

-- these are the tasks after each dirty one was told
pub record AreTold (d : DraftView) (ends : List (TaskId × PartId × ℕ)) (old new : List Task) : Type 0 where
  pub names : task_names new ≡ task_names old
  pub count : length new ≡ length old
  pub told : (k : ℕ) (t : Task) → k < length old → IsToldTask d ends (slice_index_or old k t) (slice_index_or new k t)
