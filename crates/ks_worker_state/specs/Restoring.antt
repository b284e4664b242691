-- When a replica may become a task (KIP-441: it is restored to the end of its changelogs).
use Rattle.std.specs.Prelude.{◌≡◌, ◌≢◌, ◌⊎◌, ℕ, ◌&&◌, nat_le, Bool, true, false, None, List, [], ◌∷◌, map}
use Rattle.ks_record.specs.declared.record.TaskId.{TaskId}
use Rattle.ks_plan.specs.Drafts.{DraftView}
use Rattle.ks_history.specs.declared.journal.Entry.{Entry}
use Rattle.ks_history.specs.Machine.{TaskPlan, part_of}
use Rattle.ks_history.specs.State.{offset_in}
use Rattle.ks_history.specs.Reads.{committed_refusal, committed_offsets, ends_of}
use Rattle.ks_law_restore.specs.Replicas.{restored_view}
use Rattle.ks_growing.specs.Passes.{PassView}
use Rattle.ks_shared.specs.declared.state.Frame.{Frame}
use Rattle.ks_shared.specs.Calls.{setup_in}
use Rattle.ks_standby.specs.declared.replica.Replica.{Replica}
use Rattle.ks_standby.specs.Replicas.{replica_view, changelogs_of}
use Rattle.ks_task.specs.declared.task.Task.{Task}
use Rattle.ks_task.specs.Tasks.{task_view, IsTaskOf}
use Rattle.ks_worker_client.specs.Calls.{Later, state_seen}
use Rattle.ks_worker_state.specs.Standbys.{IsStandby, HasReadStable}

-- a position in each of these changelogs is at or past its end
abbrev pub reached_in : (ℕ → ℕ) → List ℕ → List ℕ → Bool
reached_in position [] ends = true
reached_in position (topic ∷ topics) [] = false
reached_in position (topic ∷ topics) (end ∷ ends) = nat_le end (position topic) && reached_in position topics ends

-- the task was made of a replica, with these offsets of its inputs: the ends of its changelogs were told at a moment since `old`, and
-- the replica, which follows what the pass has seen now, stands at or past them
pub record IsMadeAtTheEnds {W : Type 0} (plan : W → TaskPlan) (d : DraftView) (old new : PassView Entry (Frame W)) (t : TaskId) (offsets : List (ℕ × ℕ)) (made : Task) : Type 0 where
  pub of : IsTaskOf d made
  pub replica : Replica
  pub named : replica.id ≡ t
  pub view : task_view made ≡ restored_view (replica_view replica) (λ topic. offset_in 0 topic offsets)
  pub standby : IsStandby (setup_in plan old.frame) new.seen replica
  pub told : PassView Entry (Frame W)
  pub since : Later plan old told
  pub before : Later plan told new
  pub reached : let topics = (setup_in plan old.frame).plan.changelogs t.sub in
      reached_in (replica_view replica).position topics (ends_of (state_seen plan told) (map (λ topic. part_of topic t) topics)) ≡ true

-- the group answered worker `w` in this generation the task's committed offsets, at a moment since `old`; then the ends were told, and the
-- task was made at these
pub record IsRestoredAtTheEnds {W : Type 0} (plan : W → TaskPlan) (d : DraftView) (old new : PassView Entry (Frame W)) (w generation : ℕ) (t : TaskId) (made : Task) : Type 0 where
  pub asked : PassView Entry (Frame W)
  pub asked_since : Later plan old asked
  pub answered : committed_refusal (state_seen plan asked) w generation t ≡ None
  pub offsets : List (ℕ × ℕ)
  pub offsets_are : offsets ≡ committed_offsets (setup_in plan old.frame) (state_seen plan asked) t
  pub ends : IsMadeAtTheEnds plan d asked new t offsets made

-- a replica was given back short of the ends: they were told at a moment since `old`, it has read all that was stable then, and an end
-- stands past it
pub record IsShortOfTheEnds {W : Type 0} (plan : W → TaskPlan) (old new : PassView Entry (Frame W)) (r : Replica) : Type 0 where
  pub told : PassView Entry (Frame W)
  pub since : Later plan old told
  pub before : Later plan told new
  pub read : HasReadStable (setup_in plan told.frame) told.seen (changelogs_of r) (replica_view r)
  pub short : reached_in (replica_view r).position (changelogs_of r) (ends_of (state_seen plan told) (map (λ topic. part_of topic r.id) (changelogs_of r))) ≡ false

-- the group refused worker `w` in this generation the task's committed offsets, at a moment since `old`
pub record IsRefused {W : Type 0} (plan : W → TaskPlan) (old new : PassView Entry (Frame W)) (w generation : ℕ) (t : TaskId) : Type 0 where
  pub asked : PassView Entry (Frame W)
  pub since : Later plan old asked
  pub before : Later plan asked new
  pub refused : committed_refusal (state_seen plan asked) w generation t ≢ None

-- why a replica isn't a task yet
abbrev pub IsGivenBack : {W : Type 0} → (W → TaskPlan) → PassView Entry (Frame W) → PassView Entry (Frame W) → ℕ → ℕ → Replica → Type 0
IsGivenBack plan old new w generation r = IsRefused plan old new w generation r.id ⊎ IsShortOfTheEnds plan old new r
