-- A cluster between two transactions, and a worker that has every task.
use Rattle.std.specs.Prelude.{◌≡◌, ℕ, ◌+◌, ◌≤◌, true, None, Some, List, [], ◌∷◌, if◌then◌else◌}
use Rattle.ks_record.specs.declared.record.PartId.{PartId}
use Rattle.ks_record.specs.declared.record.TaskId.{TaskId}
use Rattle.ks_record.specs.Parts.{same_part}
use Rattle.ks_history.specs.declared.journal.Entry.{Entry}
use Rattle.ks_history.specs.Partition.{stable, count_sent}
use Rattle.ks_history.specs.State.{State, Setup, new_producer, has_task}
use Rattle.ks_history.specs.Step.{owner}
use Rattle.ks_history.specs.History.{at}
use Rattle.ks_history.specs.Reads.{end_of}

-- nothing is undecided, and no marker waits
abbrev pub IsIdle : State → Type 0
IsIdle s = (w : ℕ) → ((s.producer w).undecided ≡ None) × ((s.producer w).waiting ≡ [])

-- between two transactions; the worker, with this epoch and generation, has every task
pub record IsAlone (setup : Setup) (s : State) (w e g : ℕ) : Type 0 where
  pub idle : IsIdle s
  pub worker : w ≤ 16
  pub epoch : (s.producer w).epoch ≡ e
  pub generation : s.generation ≡ g
  pub owns : (t : TaskId) → has_task t setup.tasks ≡ true → owner s t ≡ Some w

-- the number that a list of counts has for a partition
abbrev pub number_in : PartId → List (PartId × ℕ) → ℕ
number_in q [] = 0
number_in q (pair ∷ pairs) = if same_part q pair.0 then pair.1 else number_in q pairs

-- each partition's count is that of the records which this producer put there in this epoch
abbrev pub IsNumbered : State → ℕ → ℕ → List (PartId × ℕ) → Type 0
IsNumbered s w e numbers = (q : PartId) → number_in q numbers ≡ count_sent w e (s.partition q)

-- ---- laws
-- between two transactions all is stable
abbrev pub IsStable : Setup → List Entry → Type 0
IsStable setup journal = IsIdle (at setup journal) → (q : PartId) → stable ((at setup journal).partition q) ≡ end_of (at setup journal) q

-- a cluster has the producers 0 to 16
abbrev pub HasSeventeen : Setup → List Entry → Type 0
HasSeventeen setup journal = (w : ℕ) → 17 ≤ w → (at setup journal).producer w ≡ new_producer

-- no record is of a later epoch than its producer's
abbrev pub IsOfPast : Setup → List Entry → Type 0
IsOfPast setup journal = (w e : ℕ) (q : PartId) → ((at setup journal).producer w).epoch + 1 ≤ e → count_sent w e ((at setup journal).partition q) ≡ 0
