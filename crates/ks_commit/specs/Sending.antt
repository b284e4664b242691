-- What a producer's requests add to a transaction that isn't decided yet (KIP-98).
use Rattle.std.specs.Prelude.{◌≡◌, ℕ, ◌+◌, ◌≤◌, ◌==◌, ◌&&◌, ◌||◌, Bool, true, false, if◌then◌else◌, Option, Some, List, [], ◌∷◌, ◌++◌, length}
use Rattle.ks_record.specs.Records.{Record as Rec}
use Rattle.ks_record.specs.declared.record.PartId.{PartId}
use Rattle.ks_record.specs.declared.record.TaskId.{TaskId}
use Rattle.ks_record.specs.declared.assignment.Marker.{Marker}
use Rattle.ks_record.specs.Parts.{same_part, same_task}
use Rattle.ks_history.specs.declared.partition.Slot.{Slot}
use Rattle.ks_history.specs.declared.partition.Slot.TheVariants.{Plain, Sent, Mark}
use Rattle.ks_history.specs.declared.journal.Request.{Request}
use Rattle.ks_history.specs.declared.journal.Request.TheVariants.{Produce, Init, Join, Assign, Add, Append, SendOffsets, Decide, MarkNext}
use Rattle.ks_history.specs.declared.journal.Entry.{Entry}
use Rattle.ks_history.specs.declared.transaction.Pending.{Pending}
use Rattle.ks_history.specs.Partition.{recs, open_from, count_sent}
use Rattle.ks_history.specs.Machine.{TaskPlan}
use Rattle.ks_history.specs.State.{State, has_part, has_task, pending_of}
use Rattle.ks_history.specs.Step.{tx_of, pending_at, owner}
use Rattle.ks_law_restore.specs.Views.{WorkView, pending_work}
use Rattle.ks_law_restore.specs.Commits.{commits_for}
use Rattle.ks_cluster.specs.View.{ClusterView, setup_of, state_of}

-- all of these slots are records of this producer and epoch
abbrev pub are_sent : ℕ → ℕ → List Slot → Bool
are_sent w e [] = true
are_sent w e (Plain rec ∷ slots) = false
are_sent w e (Sent v d number task rec ∷ slots) = ((w == v) && (e == d)) && are_sent w e slots
are_sent w e (Mark v d commit ∷ slots) = false

-- records that are put into a partition for a task
abbrev pub Put : Type 0
Put = TaskId × PartId × List Rec

-- the records for a task in a partition
abbrev pub put_for : TaskId → PartId → List Put → List Rec
put_for t q [] = []
put_for t q (put ∷ puts) = if same_task t put.0 && same_part q put.1 then put.2 ++ put_for t q puts else put_for t q puts

-- how many records a partition gets
abbrev pub put_count : PartId → List Put → ℕ
put_count q [] = 0
put_count q (put ∷ puts) = if same_part q put.1 then length put.2 + put_count q puts else put_count q puts

abbrev pub puts_task : TaskId → List Put → Bool
puts_task t [] = false
puts_task t (put ∷ puts) = same_task t put.0 || puts_task t puts

-- the last of these that is pending for a task, else the old one
abbrev pub last_pending : TaskId → List Pending → Option Pending → Option Pending
last_pending t [] old = old
last_pending t (p ∷ ps) old = last_pending t ps (if same_task t p.task then Some p else old)

-- from one state to another a producer took these partitions into its transaction, put these records there, and has these offsets
-- pending; all else is the same
pub record Gains (s new : State) (w : ℕ) (adds : List PartId) (puts : List Put) (ps : List Pending) : Type 0 where
  pub others : (v : ℕ) → (v == w) ≡ false → new.producer v ≡ s.producer v
  pub epoch : (new.producer w).epoch ≡ (s.producer w).epoch
  pub waiting : (new.producer w).waiting ≡ (s.producer w).waiting
  pub generation : new.generation ≡ s.generation
  pub owners : (t : TaskId) → owner new t ≡ owner s t
  pub committed : new.committed ≡ s.committed
  pub slots : PartId → List Slot
  pub partition : (q : PartId) → new.partition q ≡ s.partition q ++ slots q
  pub sent : (q : PartId) → are_sent w (s.producer w).epoch (slots q) ≡ true
  pub count : (q : PartId) → length (slots q) ≡ put_count q puts
  pub records : (t : TaskId) (q : PartId) (at : ℕ) → recs (open_from w (s.producer w).epoch t at (slots q)) ≡ put_for t q puts
  pub parts : (q : PartId) → has_part q (tx_of (new.producer w)).parts ≡ has_part q (tx_of (s.producer w)).parts || has_part q adds
  pub tasks : (t : TaskId) → has_task t (tx_of (new.producer w)).tasks ≡ has_task t (tx_of (s.producer w)).tasks || puts_task t puts
  pub pending : (t : TaskId) → pending_of t (pending_at (new.producer w)) ≡ last_pending t ps (pending_of t (pending_at (s.producer w)))

-- ---- the journal
abbrev pub is_produce : Request → Bool
is_produce (Produce p rec) = true
is_produce _ = false

-- nothing is produced by these entries
abbrev pub produce_none : List Entry → Bool
produce_none [] = true
produce_none (entry ∷ entries) = if is_produce entry.request then false else produce_none entries

-- a request by which this worker publishes: it begins an epoch, joins the group and assigns; it sends, decides to commit, and writes
-- its markers
abbrev pub publishes : ℕ → Request → Bool
publishes w (Init v) = v == w
publishes w (Join v) = v == w
publishes w (Assign v g a) = v == w
publishes w (Add v e p) = v == w
publishes w (Append v e number t p recs) = v == w
publishes w (SendOffsets v e g t offsets order late) = v == w
publishes w (Decide v e commit) = (v == w) && commit
publishes w (MarkNext v) = v == w
publishes w _ = false

abbrev pub all_publish : ℕ → List Entry → Bool
all_publish w [] = true
all_publish w (entry ∷ entries) = publishes w entry.request && all_publish w entries

abbrev pub decides_commit : Request → Bool
decides_commit (Decide w e commit) = commit
decides_commit _ = false

-- how many of these entries decide to commit
abbrev pub count_commits : List Entry → ℕ
count_commits [] = 0
count_commits (entry ∷ entries) = if decides_commit entry.request then count_commits entries + 1 else count_commits entries

-- entries by which a worker publishes, of which at most so many decide to commit
pub record IsPublishing (w most : ℕ) (entries : List Entry) : Type 0 where
  pub own : all_publish w entries ≡ true
  pub commits : count_commits entries ≤ most

-- the journal is longer, and all else of the cluster is the same
abbrev pub IsLonger : {W : Type 0} → ClusterView W → ClusterView W → List Entry → Type 0
IsLonger old new more = new ≡ record old { journal = old.journal ++ more }

-- the journal is longer by entries by which a worker publishes, of which at most so many decide to commit; all else is the same
pub record Longer {W : Type 0} (w most : ℕ) (old new : ClusterView W) : Type 0 where
  pub more : List Entry
  pub is : IsLonger old new more
  pub publishing : IsPublishing w most more

-- the cluster gained this by entries of the worker, and nothing is committed
pub record Sends {W : Type 0} (plan : W → TaskPlan) (old new : ClusterView W) (w : ℕ) (adds : List PartId) (puts : List Put) (ps : List Pending) : Type 0 where
  pub more : List Entry
  pub is : IsLonger old new more
  pub publishing : IsPublishing w 0 more
  pub commits : (t : TaskId) → commits_for (setup_of plan old) (state_of plan old) more t ≡ []
  pub gains : Gains (state_of plan old) (state_of plan new) w adds puts ps

-- ---- works
abbrev pub adds_in : List (PartId × List Rec) → List PartId
adds_in [] = []
adds_in (out ∷ outs) = out.0 ∷ adds_in outs

abbrev pub puts_in : TaskId → List (PartId × List Rec) → List Put
puts_in t [] = []
puts_in t (out ∷ outs) = (t, out.0, out.1) ∷ puts_in t outs

abbrev pub adds_of : List WorkView → List PartId
adds_of [] = []
adds_of (f ∷ fs) = adds_in f.outputs ++ adds_of fs

abbrev pub puts_of : List WorkView → List Put
puts_of [] = []
puts_of (f ∷ fs) = puts_in f.task f.outputs ++ puts_of fs

abbrev pub pendings_of : List WorkView → List Pending
pendings_of [] = []
pendings_of (f ∷ fs) = pending_work f ∷ pendings_of fs

-- ---- markers
abbrev pub marks_part : PartId → List Marker → Bool
marks_part q [] = false
marks_part q (m ∷ ms) = same_part q m.part || marks_part q ms

-- from one state to another nothing but waiting markers of a producer is written
pub record Marks (s new : State) (w : ℕ) : Type 0 where
  pub others : (v : ℕ) → (v == w) ≡ false → new.producer v ≡ s.producer v
  pub epoch : (new.producer w).epoch ≡ (s.producer w).epoch
  pub undecided : (new.producer w).undecided ≡ (s.producer w).undecided
  pub generation : new.generation ≡ s.generation
  pub owners : (t : TaskId) → owner new t ≡ owner s t
  pub committed : new.committed ≡ s.committed
  pub count : (v e : ℕ) (q : PartId) → count_sent v e (new.partition q) ≡ count_sent v e (s.partition q)
  pub partition : (q : PartId) → marks_part q (s.producer w).waiting ≡ false → new.partition q ≡ s.partition q
  pub waiting : (q : PartId) → marks_part q (s.producer w).waiting ≡ false → marks_part q (new.producer w).waiting ≡ false

-- these entries write markers of the producer, and nothing else
abbrev pub writes_marker : ℕ → Request → Bool
writes_marker w (MarkNext v) = v == w
writes_marker w _ = false

abbrev pub all_markers : ℕ → List Entry → Bool
all_markers w [] = true
all_markers w (entry ∷ entries) = writes_marker w entry.request && all_markers w entries

pub record Marked {W : Type 0} (plan : W → TaskPlan) (old new : ClusterView W) (w : ℕ) : Type 0 where
  pub more : List Entry
  pub is : IsLonger old new more
  pub own : all_markers w more ≡ true
  pub commits : (t : TaskId) → commits_for (setup_of plan old) (state_of plan old) more t ≡ []
  pub marks : Marks (state_of plan old) (state_of plan new) w
