-- A partition: a list of plain records, sent records and markers, each at one offset, from 0. Next marker, completed records,
-- the last stable offset and what a reader of committed records gets are those of KIP-98.
use Rattle.std.specs.Prelude.{ℕ, suc, ◌+◌, ◌==◌, ◌&&◌, Bool, true, false, if◌then◌else◌, nat_le, nat_lt, max, take, length, cond, Option, Some, None, List, [], ◌∷◌}
use Rattle.ks_record.specs.Records.{Record as Rec}
use Rattle.ks_record.specs.declared.record.TaskId.{TaskId}
use Rattle.ks_record.specs.Parts.{same_task}
use Rattle.ks_def_runs.specs.Run.{same_sender}
use Rattle.ks_history.specs.declared.partition.Slot.{Slot}
use Rattle.ks_history.specs.declared.partition.Slot.TheVariants.{Plain, Sent, Mark}

-- how the next marker of this producer and epoch decides: it completes the records of that producer and epoch before it
abbrev pub next_mark : ℕ → ℕ → List Slot → Option Bool
next_mark w e [] = None
next_mark w e (Plain rec ∷ slots) = next_mark w e slots
next_mark w e (Sent v d number task rec ∷ slots) = next_mark w e slots
next_mark w e (Mark v d commit ∷ slots) = if (w == v) && (e == d) then Some commit else next_mark w e slots

-- one value without a marker, others by what it decides
abbrev pub by_mark : {A : Type 0} → Option Bool → A → A → A → A
by_mark None undecided committed aborted = undecided
by_mark (Some true) undecided committed aborted = committed
by_mark (Some false) undecided committed aborted = aborted

-- the last stable offset: that of the first record that isn't plain and that no marker completes, else the end
abbrev pub stable : List Slot → ℕ
stable [] = 0
stable (Plain rec ∷ slots) = suc (stable slots)
stable (Sent w e number task rec ∷ slots) = by_mark (next_mark w e slots) 0 (suc (stable slots)) (suc (stable slots))
stable (Mark w e commit ∷ slots) = suc (stable slots)

-- a record of a partition: its offset, and the task that sent it (none: plain)
pub record Logged : Type 0 where
  pub offset : ℕ
  pub sender : Option TaskId
  pub rec : Rec

-- the plain records and those that a commit marker completes, below the stable offset; the first slot has this offset
abbrev pub readable_from : ℕ → List Slot → List Logged
readable_from at [] = []
readable_from at (Plain rec ∷ slots) = record { offset = at; sender = None; rec = rec } ∷ readable_from (at + 1) slots
readable_from at (Sent w e number task rec ∷ slots) =
    by_mark (next_mark w e slots) [] (record { offset = at; sender = Some task; rec = rec } ∷ readable_from (at + 1) slots) (readable_from (at + 1) slots)
readable_from at (Mark w e commit ∷ slots) = readable_from (at + 1) slots

abbrev pub readable : List Slot → List Logged
readable slots = readable_from 0 slots

-- ---- lists of records
abbrev pub recs : List Logged → List Rec
recs [] = []
recs (x ∷ xs) = x.rec ∷ recs xs

abbrev pub with_offsets : List Logged → List (ℕ × Rec)
with_offsets [] = []
with_offsets (x ∷ xs) = (x.offset, x.rec) ∷ with_offsets xs

abbrev pub by_sender : Option TaskId → List Logged → List Logged
by_sender r [] = []
by_sender r (x ∷ xs) = cond (same_sender same_task r x.sender) (x ∷ by_sender r xs) (by_sender r xs)

-- those at or past an offset
abbrev pub past_from : ℕ → List Logged → List Logged
past_from low [] = []
past_from low (x ∷ xs) = cond (nat_le low x.offset) (x ∷ past_from low xs) (past_from low xs)

abbrev pub below : ℕ → List Logged → List Logged
below high [] = []
below high (x ∷ xs) = cond (nat_lt x.offset high) (x ∷ below high xs) (below high xs)

-- one past the last record's offset
abbrev pub past_last : List (ℕ × Rec) → ℕ
past_last [] = 0
past_last (r ∷ []) = r.0 + 1
past_last (r ∷ q ∷ rs) = past_last (q ∷ rs)

-- ---- reading committed records
-- the first so many readable records at or past an offset
abbrev pub read : ℕ → ℕ → List Slot → List (ℕ × Rec)
read from limit slots = take limit (with_offsets (past_from from (readable slots)))

-- where the next read goes on
abbrev pub read_next : ℕ → ℕ → List Slot → ℕ
read_next from limit slots =
    if length (read from limit slots) == limit then past_last (read from limit slots) else max from (stable slots)

-- ---- decided records
abbrev pub is_commit : Option Bool → Bool
is_commit None = false
is_commit (Some commit) = commit

abbrev pub is_none : {A : Type 0} → Option A → Bool
is_none None = true
is_none (Some x) = false

-- how a record is decided: by its next marker, else by the one that still waits
abbrev pub decision : Option Bool → Option Bool → Option Bool
decision None waiting = waiting
decision (Some commit) waiting = Some commit

-- The plain records and those whose transaction was decided to commit, whether or not its marker is written.
-- `waiting w e` tells how a transaction was decided whose marker isn't written here yet.
abbrev pub decided_from : (ℕ → ℕ → Option Bool) → ℕ → List Slot → List Logged
decided_from waiting at [] = []
decided_from waiting at (Plain rec ∷ slots) = record { offset = at; sender = None; rec = rec } ∷ decided_from waiting (at + 1) slots
decided_from waiting at (Sent w e number task rec ∷ slots) =
    cond (is_commit (decision (next_mark w e slots) (waiting w e)))
    (record { offset = at; sender = Some task; rec = rec } ∷ decided_from waiting (at + 1) slots)
    (decided_from waiting (at + 1) slots)
decided_from waiting at (Mark w e commit ∷ slots) = decided_from waiting (at + 1) slots

-- ---- appending
-- how many records of this producer and epoch there are
abbrev pub count_sent : ℕ → ℕ → List Slot → ℕ
count_sent w e [] = 0
count_sent w e (Plain rec ∷ slots) = count_sent w e slots
count_sent w e (Sent v d number task rec ∷ slots) = if (w == v) && (e == d) then suc (count_sent w e slots) else count_sent w e slots
count_sent w e (Mark v d commit ∷ slots) = count_sent w e slots

-- the slots of new records, numbered from `number`
abbrev pub sent_slots : ℕ → ℕ → ℕ → TaskId → List Rec → List Slot
sent_slots w e number task [] = []
sent_slots w e number task (rec ∷ recs) = Sent w e number task rec ∷ sent_slots w e (number + 1) task recs

-- ---- the records of an undecided transaction
-- whether a record is of this producer, epoch and task, and no marker completes it
abbrev pub is_open : ℕ → ℕ → TaskId → ℕ → ℕ → TaskId → Option Bool → Bool
is_open w e t v d task mark = (((w == v) && (e == d)) && same_task t task) && is_none mark

-- the records of a task that no marker completes, of this producer and epoch
abbrev pub open_from : ℕ → ℕ → TaskId → ℕ → List Slot → List Logged
open_from w e t at [] = []
open_from w e t at (Plain rec ∷ slots) = open_from w e t (at + 1) slots
open_from w e t at (Sent v d number task rec ∷ slots) =
    cond (is_open w e t v d task (next_mark v d slots)) (record { offset = at; sender = Some task; rec = rec } ∷ open_from w e t (at + 1) slots) (open_from w e t (at + 1) slots)
open_from w e t at (Mark v d commit ∷ slots) = open_from w e t (at + 1) slots

-- no decided record is the task's
abbrev pub none_decided : (ℕ → ℕ → Option Bool) → TaskId → List Slot → Bool
none_decided waiting t [] = true
none_decided waiting t (Plain rec ∷ slots) = none_decided waiting t slots
none_decided waiting t (Sent w e number task rec ∷ slots) =
    cond (same_task t task && is_commit (decision (next_mark w e slots) (waiting w e))) false (none_decided waiting t slots)
none_decided waiting t (Mark w e commit ∷ slots) = none_decided waiting t slots

-- behind the first of the task's records that no marker completes stands no decided record of the task
abbrev pub is_behind : (ℕ → ℕ → Option Bool) → ℕ → ℕ → TaskId → List Slot → Bool
is_behind waiting w e t [] = true
is_behind waiting w e t (Plain rec ∷ slots) = is_behind waiting w e t slots
is_behind waiting w e t (Sent v d number task rec ∷ slots) =
    cond (is_open w e t v d task (next_mark v d slots)) (none_decided waiting t slots) (is_behind waiting w e t slots)
is_behind waiting w e t (Mark v d commit ∷ slots) = is_behind waiting w e t slots
