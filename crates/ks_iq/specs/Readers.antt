-- A reader beside the workers, and what a call of it tells.
use Rattle.std.specs.Prelude.{◌≡◌, ◌≤◌, ◌<◌, ℕ, suc, Bool, true, false, List, [], ◌∷◌, ◌++◌, ◌⊎◌, length, slice_index_or, set, Option, Some, None, Result, Ok, Err, cond}
use Rattle.std.specs.List.{All}
use Rattle.atomic_table.specs.Seated.{TableId}
use Rattle.ks_record.specs.declared.record.TaskId.{TaskId}
use Rattle.ks_record.specs.Parts.{same_task}
use Rattle.ks_plan.specs.Drafts.{DraftView}
use Rattle.ks_plan.specs.Plan.{plan_of}
use Rattle.ks_plan.specs.Infos.{changelog_numbers}
use Rattle.ks_def_tasks.specs.Rules.{HaveParts}
use Rattle.ks_history.specs.declared.journal.Entry.{Entry}
use Rattle.ks_history.specs.Machine.{TaskPlan, IsNetwork, part_of, has_topic}
use Rattle.ks_history.specs.State.{Setup, IsSetup}
use Rattle.ks_history.specs.History.{at, IsHistory}
use Rattle.ks_growing.specs.Passes.{PassView}
use Rattle.ks_shared.specs.declared.state.Frame.{Frame}
use Rattle.ks_shared.specs.Calls.{setup_in}
use Rattle.ks_worker_client.specs.Calls.{state_seen}
use Rattle.ks_worker_state.specs.Standbys.{IsStandby, IsFedStandby}
use Rattle.ks_standby.specs.declared.replica.Replica.{Replica}
use Rattle.ks_standby.specs.Replicas.{replica_view, changelogs_of}
use Rattle.ks_law_commit.specs.Bounds.{stable_of}
use Rattle.ks_law_restore.specs.Replicas.{fresh_replica}
use Rattle.ks_iq.specs.declared.ask.Ask.{Ask}
use Rattle.ks_iq.specs.declared.answer.Answer.{Answer}
use Rattle.ks_iq.specs.declared.fault.IqFault.{IqFault}
use Rattle.ks_iq.specs.declared.fault.IqFault.TheVariants.{UnknownStore, WrongStart, WrongTask, NotClean, Behind}
use Rattle.ks_iq.specs.Asks.{ask_fault, part_of_ask, task_of, log_of}
use Rattle.ks_iq.specs.Reads.{IsRead, ReadsTopology}

-- the pass is one of this lock and doesn't hold the value, and what it has seen is a history of a network of tasks
pub record MayCallThrough {W : Type 0} (plan : W → TaskPlan) (lock : TableId) (pass : PassView Entry (Frame W)) : Type 0 where
  pub lock_is : pass.lock ≡ lock
  pub free : pass.holds ≡ false
  pub history : IsHistory (setup_in plan pass.frame) pass.seen
  pub network : IsNetwork (setup_in plan pass.frame).plan
  pub setup : IsSetup (setup_in plan pass.frame)

-- and these are the topology's tasks, of which each key has one, since each node has a partition
pub record MayRead {W : Type 0} (plan : W → TaskPlan) (lock : TableId) (d : DraftView) (pass : PassView Entry (Frame W)) : Type 0 where
  pub call : MayCallThrough plan lock pass
  pub topology : ReadsTopology d (setup_in plan pass.frame)
  pub parts : HaveParts (plan_of d)

-- a replica was fed one of its changelogs, and nothing that was stable in `h` is left of that
pub record IsFedTo (setup : Setup) (h now : List Entry) (topic : ℕ) (old new : Replica) : Type 0 where
  pub standby : IsStandby setup now new
  pub changelogs : changelogs_of new ≡ changelogs_of old
  pub task : new.id ≡ old.id
  pub later : (u : ℕ) → (replica_view old).position u ≤ (replica_view new).position u
  pub fresh : stable_of (at setup h) (part_of topic old.id) ≤ (replica_view new).position topic

-- one fetch of it: whether it moved the replica
pub record IsFedOnce (setup : Setup) (h now : List Entry) (topic : ℕ) (moved : Bool) (old new : Replica) : Type 0 where
  pub fed : IsFedStandby setup h now (topic ∷ []) old new
  pub moves : moved ≡ true → (replica_view old).position topic < (replica_view new).position topic
  pub stops : moved ≡ false → stable_of (at setup h) (part_of topic old.id) ≤ (replica_view new).position topic

-- each of its replicas is one of the cluster's, and follows what the pass has seen
abbrev pub IsReader : {W : Type 0} → (W → TaskPlan) → PassView Entry (Frame W) → List Replica → Type 0
IsReader plan pass replicas = All (IsStandby (setup_in plan pass.frame) pass.seen) replicas

-- the position of its replica of a task in a changelog; 0 where it has none
abbrev pub position_at : List Replica → TaskId → ℕ → ℕ
position_at [] task log = 0
position_at (r ∷ rs) task log = cond (same_task r.id task) ((replica_view r).position log) (position_at rs task log)

-- no position of any task's changelog fell
abbrev pub NoneFell : List Replica → List Replica → Type 0
NoneFell before after = (task : TaskId) (log : ℕ) → position_at before task log ≤ position_at after task log

-- the place of the first replica of a task; past all where none is of it
abbrev pub replica_place : TaskId → List Replica → ℕ
replica_place task [] = 0
replica_place task (r ∷ rs) = cond (same_task r.id task) 0 (suc (replica_place task rs))

-- the first replica of this task is at this place
pub record IsAt (rs : List Replica) (at : ℕ) (task : TaskId) : Type 0 where
  pub within : at < length rs
  pub first : at ≡ replica_place task rs

-- a replica of this task that was fed nothing, with the task's changelogs
pub record IsNewOf (d : DraftView) (task : TaskId) (r : Replica) : Type 0 where
  pub view : replica_view r ≡ fresh_replica task
  pub changelogs : changelogs_of r ≡ changelog_numbers (plan_of d) task.sub

-- the same replicas, or behind them a new one of this task
abbrev pub AreWithOne : DraftView → List Replica → List Replica → TaskId → Type 0
AreWithOne d old new task = (new ≡ old) ⊎ ((r : Replica) × (new ≡ old ++ r ∷ []) × IsNewOf d task r)

-- the replica at this place has this changelog
abbrev pub HasLogAt : List Replica → ℕ → ℕ → Type 0
HasLogAt rs at log = (r : Replica) → has_topic log (changelogs_of (slice_index_or rs at r)) ≡ true

-- the replica at this place was fed this changelog, and the others are the same
pub record IsFedAt (setup : Setup) (h now : List Entry) (log at : ℕ) (old new : List Replica) : Type 0 where
  pub before : Replica
  pub after : Replica
  pub was : before ≡ slice_index_or old at before
  pub fed : IsFedTo setup h now log before after
  pub is : new ≡ set old at after

-- what an ask tells, by its position before and after and what the pass had seen before it
pub record IsReachedAt (d : DraftView) {W : Type 0} (plan : W → TaskPlan) (old new : PassView Entry (Frame W)) (before after : List Replica) (a : Ask) (position : ℕ) : Type 0 where
  pub own : position ≡ position_at after (task_of d a) (log_of d a)
  pub rises : position_at before (task_of d a) (log_of d a) ≤ position
  pub fresh : stable_of (state_seen plan old) (part_of_ask d a) ≤ position

abbrev pub IsTold : {W : Type 0} → (W → TaskPlan) → DraftView → PassView Entry (Frame W) → PassView Entry (Frame W) → List Replica → List Replica → Ask → ℕ → Result Answer IqFault → Type 0
IsTold plan d old new before after a at_least (Ok x) =
    IsRead d (state_seen plan new) a x × (at_least ≤ x.position) × IsReachedAt d plan old new before after a x.position
IsTold plan d old new before after a at_least (Err UnknownStore) = ask_fault d a ≡ Some UnknownStore
IsTold plan d old new before after a at_least (Err WrongStart) = ask_fault d a ≡ Some WrongStart
IsTold plan d old new before after a at_least (Err (Behind position)) =
    (ask_fault d a ≡ None) × (position < at_least) × IsReachedAt d plan old new before after a position
IsTold plan d old new before after a at_least (Err _) = ⊥
