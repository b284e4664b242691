-- What a worker holds of the places of an assignment, and what it parks (KIP-441: active tasks, standbys and warmups of a client).
use Rattle.std.specs.Prelude.{◌≡◌, ◌<◌, ◌+◌, ◌&&◌, ℕ, Bool, true, false, not, if◌then◌else◌, List, [], ◌∷◌, ◌++◌}
use Rattle.ks_record.specs.declared.record.TaskId.{TaskId}
use Rattle.ks_record.specs.declared.assignment.Assignment.{Assignment}
use Rattle.ks_record.specs.Parts.{same_task}
use Rattle.ks_history.specs.declared.journal.Entry.{Entry}
use Rattle.ks_history.specs.declared.journal.Request.TheVariants.{Park}
use Rattle.ks_history.specs.State.{has_task}
use Rattle.ks_growing.specs.Passes.{PassView}
use Rattle.ks_shared.specs.declared.state.Frame.{Frame}
use Rattle.ks_standby.specs.declared.replica.Replica.{Replica}
use Rattle.ks_worker_state.specs.Gained.{HasGained}
use Rattle.ks_worker_state.specs.declared.state.WorkerState.{WorkerState}
use Rattle.ks_worker_state.specs.Names.{task_names, replica_names, times}
use Rattle.ks_worker_turn.specs.Places.{is_placed}

-- the names of its tasks and replicas
abbrev pub names_held : {W G : Type 0} → WorkerState W G → List TaskId
names_held s = task_names s.tasks.items ++ replica_names s.replicas.items

-- it holds a task of this name, or a replica
abbrev pub holds : {W G : Type 0} → WorkerState W G → TaskId → Bool
holds s t = has_task t (names_held s)

-- each task of a kind is one of those
abbrev pub AreHeld : (TaskId → Bool) → List TaskId → Type 0
AreHeld is those = (u : TaskId) → is u ≡ true → has_task u those ≡ true

-- there is none of this task, and of each other as many as there were
abbrev pub AreWithout : TaskId → List Replica → List Replica → Type 0
AreWithout t was now = (u : TaskId) → times u (replica_names now) ≡ (if same_task u t then 0 else times u (replica_names was))

-- its replica of this task, if it had one, was parked at the instance; the others are there
pub record HasParkedOne {W : Type 0} (instance : ℕ) (t : TaskId) (old new : PassView Entry (Frame W)) (was now : List Replica) : Type 0 where
  pub kept : AreWithout t was now
  pub parked : has_task t (replica_names was) ≡ true → HasGained old new (Park instance t ∷ [])

-- its replicas of those of these tasks that aren't placed with worker `w` were parked at the instance; the others are there
pub record HasParked {W : Type 0} (a : Assignment) (w instance : ℕ) (tasks : List TaskId) (old new : PassView Entry (Frame W)) (was now : List Replica) : Type 0 where
  pub kept : (u : TaskId) → times u (replica_names now) ≡ (if has_task u tasks && not (is_placed a w u) then 0 else times u (replica_names was))
  pub parked : (u : TaskId) → has_task u tasks ≡ true → is_placed a w u ≡ false → has_task u (replica_names was) ≡ true → HasGained old new (Park instance u ∷ [])

-- it holds one more of this name
abbrev pub HoldsOneMore : {W G : Type 0} → TaskId → WorkerState W G → WorkerState W G → Type 0
HoldsOneMore t old new = (u : TaskId) → times u (names_held new) ≡ times u (t ∷ []) + times u (names_held old)

-- it holds this task once, and else what it held
abbrev pub HoldsOnce : {W G : Type 0} → TaskId → WorkerState W G → WorkerState W G → Type 0
HoldsOnce t old new = (u : TaskId) → times u (names_held new) ≡ (if same_task u t then 1 else times u (names_held old))

-- it holds each of these tasks that is placed with worker `w`, once, and else what it held
abbrev pub HoldsPlaced : {W G : Type 0} → Assignment → ℕ → List TaskId → WorkerState W G → WorkerState W G → Type 0
HoldsPlaced a w tasks old new = (u : TaskId) → times u (names_held new) ≡ (if has_task u tasks && is_placed a w u then 1 else times u (names_held old))

-- it took its places of a generation's assignment: of these tasks it holds each that is placed with it, as a task, or as a replica that
-- isn't one yet; where the generation is newer than its own was, it holds nothing else, and has parked what it held beside that
pub record HasTakenPlaces {W G : Type 0} (tasks : List TaskId) (generation : ℕ) (a : Assignment) (old new : WorkerState W G) : Type 0 where
  pub placed : (t : TaskId) → has_task t tasks ≡ true → is_placed a old.member.number t ≡ true → holds new t ≡ true
  pub left : old.member.generation < generation → (t : TaskId) → is_placed a old.member.number t ≡ false → holds new t ≡ false
  pub parked : old.member.generation < generation → (t : TaskId) → holds old t ≡ true → is_placed a old.member.number t ≡ false →
      HasGained old.session.client.pass new.session.client.pass (Park old.member.instance t ∷ [])
