-- What each history keeps, beside its run.
use Rattle.std.specs.Prelude.{◌≡◌, ◌≢◌, ◌⊎◌, ℕ, ◌≤◌, true, List, [], ◌∷◌, Option, Some, None}
use Rattle.ks_record.specs.Records.{Record as Rec}
use Rattle.ks_record.specs.declared.record.PartId.{PartId}
use Rattle.ks_record.specs.declared.record.TaskId.{TaskId}
use Rattle.ks_record.specs.Parts.{task_lt}
use Rattle.ks_def_runs.specs.Run.{RunState}
use Rattle.ks_history.specs.declared.partition.Slot.{Slot}
use Rattle.ks_history.specs.declared.partition.Slot.TheVariants.{Plain, Sent, Mark}
use Rattle.ks_history.specs.declared.transaction.Pending.{Pending}
use Rattle.ks_history.specs.declared.transaction.Transaction.{Transaction}
use Rattle.ks_history.specs.declared.transaction.Producer.{Producer}
use Rattle.ks_history.specs.Partition.{next_mark, recs, by_sender, past_from, stable}
use Rattle.ks_history.specs.Machine.{Stores, reader_of, part_of, has_topic}
use Rattle.ks_history.specs.State.{State, Setup, has_task, has_part}
use Rattle.ks_history.specs.Step.{pending_at}
use Rattle.ks_history.specs.Faithful.{decided, folds, marker_among, capped}

-- the run has taken what the cluster has committed
pub record Shows (setup : Setup) (s : State) (st : RunState TaskId PartId Stores Rec) : Type 0 where
  pub lists : (r : Option TaskId) (q : PartId) → st.waiting r q ≡ recs (by_sender r (past_from (s.committed (reader_of setup.plan q) q.topic) (decided s q)))
  pub stores : (t : TaskId) → st.stores t ≡ folds setup s t
  pub given : (r : Option TaskId) (q : PartId) → st.given r q ≡ recs (by_sender r (decided s q))
  pub late : s.late ≡ capped st.late

-- ---- what keeps undecided records apart
-- what holds of producer, epoch and task of each record that no marker completes
abbrev pub Open : (ℕ → ℕ → TaskId → Type 0) → List Slot → Type 0
Open P [] = Unit {0}
Open P (Plain rec ∷ slots) = Open P slots
Open P (Sent w e number task rec ∷ slots) = (next_mark w e slots ≡ None → P w e task) × Open P slots
Open P (Mark w e commit ∷ slots) = Open P slots

-- the record is of the undecided transaction
pub record IsOfTx (p : Producer) (q : PartId) (e : ℕ) (t : TaskId) : Type 0 where
  pub tx : Transaction
  pub undecided : p.undecided ≡ Some tx
  pub epoch : e ≡ p.epoch
  pub task : has_task t tx.tasks ≡ true
  pub part : has_part q tx.parts ≡ true

-- a record without a marker has one that waits, or is of the undecided transaction
abbrev pub Owned : (ℕ → Producer) → PartId → ℕ → ℕ → TaskId → Type 0
Owned producers q w e t = (marker_among q e (producers w).waiting ≢ None) ⊎ IsOfTx (producers w) q e t

abbrev pub AllAbove : TaskId → List Pending → Type 0
AllAbove t [] = Unit {0}
AllAbove t (p ∷ ps) = (task_lt t p.task ≡ true) × AllAbove t ps

-- in order of tasks, each at most once
abbrev pub Distinct : List Pending → Type 0
Distinct [] = Unit {0}
Distinct (p ∷ ps) = AllAbove p.task ps × Distinct ps

pub record Sound (setup : Setup) (s : State) : Type 0 where
  -- no marker waits while a transaction is undecided
  pub markers : (w : ℕ) (tx : Transaction) → (s.producer w).undecided ≡ Some tx → (s.producer w).waiting ≡ []
  pub owned : (q : PartId) → Open (Owned s.producer q) (s.partition q)
  pub committed : (t : TaskId) (topic : ℕ) → s.committed t topic ≤ stable (s.partition (part_of topic t))
  pub distinct : (w : ℕ) → Distinct (pending_at (s.producer w))
  -- a changelog has the records of its own task alone
  pub alone : (t : TaskId) (topic : ℕ) (r : Option TaskId) → has_topic topic (setup.plan.changelogs t.sub) ≡ true → r ≢ Some t → by_sender r (decided s (part_of topic t)) ≡ []
