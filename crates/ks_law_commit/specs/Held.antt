-- What a worker keeps of each of its tasks (Kafka Streams: an active StreamTask; KIP-441, KIP-447).
use Rattle.std.specs.Prelude.{◌≡◌, ◌≤◌, ◌<◌, ℕ, true, false, None, List, ◌++◌}
use Rattle.ks_def_runs.specs.Bytes.{empty_store}
use Rattle.ks_history.specs.declared.journal.Entry.{Entry}
use Rattle.ks_history.specs.Machine.{TaskPlan, IsNetwork, part_of, has_topic}
use Rattle.ks_history.specs.State.{Setup, has_task}
use Rattle.ks_history.specs.Reads.{committed_refusal, end_of, fetched}
use Rattle.ks_history.specs.Follows.{TaskView, ReplicaView, ReplicaFollows}
use Rattle.ks_history.specs.History.{at, IsHistory}
use Rattle.ks_law_restore.specs.Views.{take_all, skip_view}
use Rattle.ks_law_restore.specs.Replicas.{restored_view, rested_view}
use Rattle.ks_law_sharing.specs.Tasks.{IsActive, HasSeen, HasReached, AreCommitted}

-- it took nothing since its last commit, nor passed over anything
abbrev pub IsClean : TaskPlan → TaskView → Type 0
IsClean plan v = (topic : ℕ) → has_topic topic (plan.inputs v.task.sub) ≡ true → v.inputs topic ≡ v.kept topic

-- a task of a worker of generation `g` that remembers the place `last`
pub record IsHeld (setup : Setup) (journal : List Entry) (w g last : ℕ) (v : TaskView) : Type 0 where
  pub known : has_task v.task setup.tasks ≡ true
  -- while generation and place are the worker's own, it follows the journal and is the worker's
  pub active : IsActive setup journal w g last v
  -- where it is clean, the replica that it leaves follows the journal, whatever others did
  pub rests : IsClean setup.plan v → ReplicaFollows setup journal (rested_view v)
  -- it may fetch where it stands, whatever others did
  pub kept : (topic : ℕ) → v.kept topic ≤ v.inputs topic
  pub within : (topic : ℕ) → has_topic topic (setup.plan.inputs v.task.sub) ≡ true →
      v.inputs topic ≤ end_of (at setup journal) (part_of topic v.task)

-- ---- the laws
abbrev pub HeldStays : Type 0
HeldStays = (setup : Setup) (journal more : List Entry) (w g last : ℕ) (v : TaskView) →
    IsNetwork setup.plan → IsHistory setup (journal ++ more) → HasSeen setup journal w g last →
    IsHeld setup journal w g last v → IsHeld setup (journal ++ more) w g last v

-- a fetch that moves the position
abbrev pub FetchingHolds : Type 0
FetchingHolds = (setup : Setup) (journal : List Entry) (w g last : ℕ) (v : TaskView) (topic limit : ℕ) →
    IsNetwork setup.plan → has_topic topic (setup.plan.inputs v.task.sub) ≡ true → 1 ≤ limit →
    IsHeld setup journal w g last v →
    let got = fetched (at setup journal) (part_of topic v.task) (v.inputs topic) limit in
    v.inputs topic < got.1 → IsHeld setup journal w g last (skip_view (take_all setup.plan v topic got.0) topic got.1)

-- the committed offsets were answered at `journal`, the ends at `journal ++ one`, and the replica has reached these now
abbrev pub RestoringHolds : Type 0
RestoringHolds =
    (setup : Setup) (journal one two : List Entry) (w g last : ℕ) (r : ReplicaView) (offsets : ℕ → ℕ) →
    IsNetwork setup.plan → IsHistory setup (journal ++ one ++ two) → HasSeen setup journal w g last →
    committed_refusal (at setup journal) w g r.task ≡ None →
    AreCommitted setup (at setup journal) r.task offsets →
    HasReached setup (at setup (journal ++ one)) r →
    ((topic : ℕ) → has_topic topic (setup.plan.changelogs r.task.sub) ≡ false → r.stores topic ≡ empty_store) →
    has_task r.task setup.tasks ≡ true → ReplicaFollows setup (journal ++ one ++ two) r →
    IsHeld setup (journal ++ one ++ two) w g last (restored_view r offsets)
