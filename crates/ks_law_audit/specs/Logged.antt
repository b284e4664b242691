-- What a transaction appended, with offsets, told by the journal: the records of the accepted appends since its producer last ended one.
use Rattle.std.specs.Prelude.{◌≡◌, ℕ, ◌+◌, ◌==◌, ◌&&◌, if◌then◌else◌, List, [], ◌∷◌, ◌++◌, Option, Some, None, length}
use Rattle.ks_record.specs.Records.{Record as Rec}
use Rattle.ks_record.specs.declared.record.PartId.{PartId}
use Rattle.ks_record.specs.declared.record.TaskId.{TaskId}
use Rattle.ks_record.specs.declared.assignment.Refused.{Refused}
use Rattle.ks_record.specs.Parts.{same_part, same_task}
use Rattle.ks_history.specs.declared.journal.Request.{Request}
use Rattle.ks_history.specs.declared.journal.Request.TheVariants.{Init, Append, Decide, Expire}
use Rattle.ks_history.specs.declared.journal.Entry.{Entry}
use Rattle.ks_history.specs.declared.transaction.Transaction.{Transaction}
use Rattle.ks_history.specs.Partition.{Logged, open_from}
use Rattle.ks_history.specs.State.{State, Setup, start}
use Rattle.ks_history.specs.Step.{refusal, after, can_expire}
use Rattle.ks_history.specs.History.{at}

-- records of a task that stand one after another from an offset on
abbrev pub logged_at : ℕ → TaskId → List Rec → List Logged
logged_at n u [] = []
logged_at n u (r ∷ rs) = record { offset = n; sender = Some u; rec = r } ∷ logged_at (n + 1) u rs

-- by an entry: of this producer, for this task in this partition
abbrev pub logged_by : State → Request → Option Refused → ℕ → TaskId → PartId → List Logged → List Logged
logged_by s request (Some refused) w t q before = before
logged_by s (Append v e number u p recs) None w t q before = if ((w == v) && same_task t u) && same_part q p then before ++ logged_at (length (s.partition q)) u recs else before
logged_by s (Init v) None w t q before = if w == v then [] else before
logged_by s (Decide v e commit) None w t q before = if w == v then [] else before
logged_by s (Expire v) None w t q before = if (w == v) && can_expire s v then [] else before
logged_by s _ None w t q before = before

abbrev pub logged_from : Setup → State → List Entry → ℕ → TaskId → PartId → List Logged → List Logged
logged_from setup s [] w t q before = before
logged_from setup s (entry ∷ entries) w t q before =
    logged_from setup (after setup s entry.request) entries w t q (logged_by s entry.request (refusal setup s entry.request) w t q before)

abbrev pub logged : Setup → List Entry → ℕ → TaskId → PartId → List Logged
logged setup journal w t q = logged_from setup start journal w t q []

-- the records of an undecided transaction that no marker completes, with their offsets
abbrev pub OpenIsLogged : Setup → List Entry → Type 0
OpenIsLogged setup journal = (w : ℕ) (tx : Transaction) → ((at setup journal).producer w).undecided ≡ Some tx → (t : TaskId) (q : PartId) →
    open_from w ((at setup journal).producer w).epoch t 0 ((at setup journal).partition q) ≡ logged setup journal w t q
