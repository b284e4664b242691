-- Active tasks of a worker among others (KIP-441: active tasks, restoring; KIP-447: a generation of the group fences its members).
use Rattle.std.specs.Prelude.{◌≡◌, ◌≤◌, ℕ, true, false, Some, None, List, ◌++◌}
use Rattle.ks_def_runs.specs.Bytes.{empty_store}
use Rattle.ks_record.specs.declared.record.TaskId.{TaskId}
use Rattle.ks_history.specs.declared.journal.Entry.{Entry}
use Rattle.ks_history.specs.Machine.{IsNetwork, part_of, has_topic}
use Rattle.ks_history.specs.State.{State, Setup}
use Rattle.ks_history.specs.Step.{owner}
use Rattle.ks_history.specs.Reads.{committed_refusal, end_of, fetched}
use Rattle.ks_history.specs.Follows.{TaskView, ReplicaView, ReplicaFollows}
use Rattle.ks_history.specs.History.{at, IsHistory}
use Rattle.ks_history.specs.Touched.{touched, untouched}
use Rattle.ks_law_restore.specs.Views.{Stands, take_all, skip_view}
use Rattle.ks_law_restore.specs.Commits.{NoCommit}
use Rattle.ks_law_restore.specs.Replicas.{restored_view}
use Rattle.ks_law_sharing.specs.Others.{NoneElsewhere}

-- the task is active at the worker in this generation, and nobody else has offsets of it pending
pub record IsAssigned (s : State) (w g : ℕ) (t : TaskId) : Type 0 where
  pub generation : s.generation ≡ g
  pub place : owner s t ≡ Some w
  pub pending : NoneElsewhere s t w

-- a task of a worker of generation `g` that remembers the place `last` as the last at which its transaction was touched: while both
-- stand, it follows the journal and is the worker's; a worker that is fenced knows nothing of it
pub record IsActive (setup : Setup) (journal : List Entry) (w g last : ℕ) (v : TaskView) : Type 0 where
  pub follows : (at setup journal).generation ≡ g → touched w journal ≡ last → Stands setup journal v
  pub assigned : (at setup journal).generation ≡ g → touched w journal ≡ last → IsAssigned (at setup journal) w g v.task

-- this generation and this place are of the journal's past
pub record HasSeen (setup : Setup) (journal : List Entry) (w g last : ℕ) : Type 0 where
  pub generation : g ≤ (at setup journal).generation
  pub place : last ≤ touched w journal

-- ---- the laws
abbrev pub SeenStays : Type 0
SeenStays = (setup : Setup) (journal more : List Entry) (w g last : ℕ) →
    HasSeen setup journal w g last → HasSeen setup (journal ++ more) w g last

abbrev pub AssignedStays : Type 0
AssignedStays = (setup : Setup) (journal more : List Entry) (w g : ℕ) (t : TaskId) →
    IsHistory setup (journal ++ more) → untouched w more ≡ true →
    IsAssigned (at setup journal) w g t → (at setup (journal ++ more)).generation ≡ g →
    IsAssigned (at setup (journal ++ more)) w g t × NoCommit setup (at setup journal) more t

abbrev pub ActiveStays : Type 0
ActiveStays = (setup : Setup) (journal more : List Entry) (w g last : ℕ) (v : TaskView) →
    IsNetwork setup.plan → IsHistory setup (journal ++ more) →
    HasSeen setup journal w g last → IsActive setup journal w g last v → IsActive setup (journal ++ more) w g last v

-- the replica is past these ends of its changelogs
abbrev pub HasReached : Setup → State → ReplicaView → Type 0
HasReached setup s r = (topic : ℕ) → has_topic topic (setup.plan.changelogs r.task.sub) ≡ true →
    end_of s (part_of topic r.task) ≤ r.position topic

-- these are the committed offsets of a task's inputs
abbrev pub AreCommitted : Setup → State → TaskId → (ℕ → ℕ) → Type 0
AreCommitted setup s t offsets = (topic : ℕ) → has_topic topic (setup.plan.inputs t.sub) ≡ true → offsets topic ≡ s.committed t topic

-- the committed offsets were answered at `journal`, the ends at `journal ++ one`, and the replica has reached these now
abbrev pub RestoredIsActive : Type 0
RestoredIsActive =
    (setup : Setup) (journal one two : List Entry) (w g last : ℕ) (r : ReplicaView) (offsets : ℕ → ℕ) →
    IsNetwork setup.plan → IsHistory setup (journal ++ one ++ two) → HasSeen setup journal w g last →
    committed_refusal (at setup journal) w g r.task ≡ None →
    AreCommitted setup (at setup journal) r.task offsets →
    HasReached setup (at setup (journal ++ one)) r →
    ((topic : ℕ) → has_topic topic (setup.plan.changelogs r.task.sub) ≡ false → r.stores topic ≡ empty_store) →
    ReplicaFollows setup (journal ++ one ++ two) r →
    IsActive setup (journal ++ one ++ two) w g last (restored_view r offsets)

abbrev pub FetchingStaysActive : Type 0
FetchingStaysActive =
    (setup : Setup) (journal : List Entry) (w g last : ℕ) (v : TaskView) (topic limit : ℕ) → IsNetwork setup.plan →
    has_topic topic (setup.plan.inputs v.task.sub) ≡ true → 1 ≤ limit → IsActive setup journal w g last v →
    let got = fetched (at setup journal) (part_of topic v.task) (v.inputs topic) limit in
    IsActive setup journal w g last (skip_view (take_all setup.plan v topic got.0) topic got.1)
