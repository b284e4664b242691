-- What a producer has put into a transaction that isn't decided yet, while others write the journal too (KIP-98: partitions are
-- added, records appended; KIP-447: offsets are sent with the generation).
use Rattle.std.specs.Prelude.{◌≡◌, ◌≤◌, ℕ, ◌==◌, ◌&&◌, ◌||◌, Bool, true, false, if◌then◌else◌, Option, Some, None, List, [], ◌∷◌, ◌++◌, length}
use Rattle.ks_record.specs.Records.{Record as Rec}
use Rattle.ks_record.specs.declared.record.PartId.{PartId}
use Rattle.ks_record.specs.declared.record.TaskId.{TaskId}
use Rattle.ks_record.specs.Parts.{same_part, same_task}
use Rattle.ks_history.specs.declared.journal.Entry.{Entry}
use Rattle.ks_history.specs.declared.journal.Request.{Request}
use Rattle.ks_history.specs.declared.journal.Request.TheVariants.{Add, Append, SendOffsets}
use Rattle.ks_history.specs.declared.transaction.Pending.{Pending}
use Rattle.ks_history.specs.Partition.{recs, open_from}
use Rattle.ks_history.specs.Machine.{IsNetwork}
use Rattle.ks_history.specs.State.{State, Setup, has_part, has_task, pending_of}
use Rattle.ks_history.specs.Step.{effect, tx_of, pending_at}
use Rattle.ks_history.specs.Follows.{TaskView}
use Rattle.ks_history.specs.History.{at, IsHistory}
use Rattle.ks_history.specs.Touched.{touched, untouched}
use Rattle.ks_law_restore.specs.Commits.{NoCommit}
use Rattle.ks_law_sharing.specs.Others.{AllFrom}
use Rattle.ks_law_sharing.specs.Tasks.{IsActive}

-- ---- what was put in
-- the partitions that were added, the tasks that were appended for, the records of each task by partition, each task's offsets
pub record Contents : Type 0 where
  pub parts : PartId → Bool
  pub tasks : TaskId → Bool
  pub records : TaskId → PartId → List Rec
  pub pending : TaskId → Option Pending

abbrev pub no_contents : Contents
no_contents = record { parts = λ q. false; tasks = λ t. false; records = λ t q. []; pending = λ t. None }

abbrev pub with_part : PartId → Contents → Contents
with_part p c = record c { parts = λ q. c.parts q || same_part q p }

abbrev pub with_records : TaskId → PartId → List Rec → Contents → Contents
with_records t p rs c = record c {
  tasks = λ u. c.tasks u || same_task u t;
  records = λ u q. if same_task u t && same_part q p then c.records u q ++ rs else c.records u q;
}

abbrev pub with_pending_offsets : Pending → Contents → Contents
with_pending_offsets new c = record c { pending = λ t. if same_task t new.task then Some new else c.pending t }

-- ---- the transaction
-- in this epoch, and since the cluster stood at `first`, the producer has put this into its transaction, and nothing else
pub record IsBuilding (first s : State) (w e : ℕ) (c : Contents) : Type 0 where
  pub epoch : (s.producer w).epoch ≡ e
  pub waiting : (s.producer w).waiting ≡ []
  pub parts : (q : PartId) → has_part q (tx_of (s.producer w)).parts ≡ c.parts q
  pub tasks : (t : TaskId) → has_task t (tx_of (s.producer w)).tasks ≡ c.tasks t
  pub pending : (t : TaskId) → pending_of t (pending_at (s.producer w)) ≡ c.pending t
  -- no marker completes its records, and they stand past all that stood at first
  pub records : (t : TaskId) (q : PartId) → recs (open_from w e t 0 (s.partition q)) ≡ c.records t q
  pub since : (t : TaskId) (q : PartId) → AllFrom (length (first.partition q)) (open_from w e t 0 (s.partition q))
  pub ends : (q : PartId) → length (first.partition q) ≤ length (s.partition q)

-- the requests by which a worker adds to its transaction
abbrev pub adds_to : ℕ → Request → Bool
adds_to w (Add v e p) = v == w
adds_to w (Append v e number t p rs) = v == w
adds_to w (SendOffsets v e g t offsets order late) = v == w
adds_to w _ = false

-- ---- the laws
abbrev pub BuildingBegins : Type 0
BuildingBegins = (setup : Setup) (journal : List Entry) (w e : ℕ) → IsNetwork setup.plan → IsHistory setup journal →
    ((at setup journal).producer w).undecided ≡ None → ((at setup journal).producer w).waiting ≡ [] →
    ((at setup journal).producer w).epoch ≡ e →
    IsBuilding (at setup journal) (at setup journal) w e no_contents

abbrev pub BuildingStays : Type 0
BuildingStays = (setup : Setup) (first : State) (journal more : List Entry) (w e : ℕ) (c : Contents) →
    IsHistory setup (journal ++ more) → untouched w more ≡ true → ((at setup (journal ++ more)).producer w).epoch ≡ e →
    IsBuilding first (at setup journal) w e c → IsBuilding first (at setup (journal ++ more)) w e c

abbrev pub AddBuilds : Type 0
AddBuilds = (first s : State) (w e : ℕ) (p : PartId) (c : Contents) →
    IsBuilding first s w e c → IsBuilding first (effect s (Add w e p)) w e (with_part p c)

abbrev pub AppendBuilds : Type 0
AppendBuilds = (first s : State) (w e number : ℕ) (t : TaskId) (p : PartId) (rs : List Rec) (c : Contents) →
    IsBuilding first s w e c → IsBuilding first (effect s (Append w e number t p rs)) w e (with_records t p rs c)

abbrev pub OffsetsBuild : Type 0
OffsetsBuild =
    (first s : State) (w e g : ℕ) (t : TaskId) (offsets order : List (ℕ × ℕ)) (late : ℕ) (c : Contents) →
    IsBuilding first s w e c →
    IsBuilding first (effect s (SendOffsets w e g t offsets order late)) w e
    (with_pending_offsets (record { task = t; offsets = offsets; order = order; late = late }) c)

-- the worker remembers the new entry, accepted or refused
abbrev pub ActiveBuilds : Type 0
ActiveBuilds = (setup : Setup) (journal : List Entry) (entry : Entry) (w g last : ℕ) (v : TaskView) →
    IsNetwork setup.plan → IsHistory setup (journal ++ entry ∷ []) → adds_to w entry.request ≡ true →
    touched w journal ≡ last → IsActive setup journal w g last v →
    IsActive setup (journal ++ entry ∷ []) w g (touched w (journal ++ entry ∷ [])) v
    × ((t : TaskId) → NoCommit setup (at setup journal) (entry ∷ []) t)
