-- What the entries of others leave of a producer: others are all who don't use its number (KIP-98: a producer is one writer, a
-- second one with its number begins a new epoch).
use Rattle.std.specs.Prelude.{◌≡◌, ◌≢◌, ◌≤◌, ℕ, true, false, None, List, [], ◌∷◌, ◌++◌, length}
use Rattle.ks_record.specs.declared.record.PartId.{PartId}
use Rattle.ks_record.specs.declared.record.TaskId.{TaskId}
use Rattle.ks_history.specs.declared.journal.Entry.{Entry}
use Rattle.ks_history.specs.declared.journal.Request.TheVariants.{Decide}
use Rattle.ks_history.specs.Machine.{IsNetwork}
use Rattle.ks_history.specs.Partition.{Logged, count_sent, open_from}
use Rattle.ks_history.specs.State.{State, Setup}
use Rattle.ks_history.specs.Step.{has_pending}
use Rattle.ks_history.specs.History.{at, IsHistory, CommitsFaithfully, are_offsets}
use Rattle.ks_history.specs.Touched.{touched, untouched}

-- ---- the place up to which a journal touches
abbrev pub SameTouched : Type 0
SameTouched = (w : ℕ) (journal more : List Entry) → touched w (journal ++ more) ≡ touched w journal → untouched w more ≡ true

abbrev pub TouchedBefore : Type 0
TouchedBefore = (w : ℕ) (journal more : List Entry) → touched w (journal ++ more) ≤ length journal → untouched w more ≡ true

-- ---- whatever is written
abbrev pub EpochRises : Type 0
EpochRises = (setup : Setup) (journal more : List Entry) (w : ℕ) →
    ((at setup journal).producer w).epoch ≤ ((at setup (journal ++ more)).producer w).epoch

abbrev pub EndsRise : Type 0
EndsRise = (setup : Setup) (journal more : List Entry) (q : PartId) →
    length ((at setup journal).partition q) ≤ length ((at setup (journal ++ more)).partition q)

abbrev pub OffsetsStay : Type 0
OffsetsStay = (setup : Setup) (journal more : List Entry) (t : TaskId) (offsets : List (ℕ × ℕ)) →
    are_offsets setup (at setup journal) t offsets ≡ true → are_offsets setup (at setup (journal ++ more)) t offsets ≡ true

-- ---- while others alone write
abbrev pub CountStays : Type 0
CountStays = (setup : Setup) (journal more : List Entry) (w e : ℕ) (q : PartId) →
    IsHistory setup (journal ++ more) → untouched w more ≡ true →
    count_sent w e ((at setup (journal ++ more)).partition q) ≡ count_sent w e ((at setup journal).partition q)

abbrev pub IdleStays : Type 0
IdleStays = (setup : Setup) (journal more : List Entry) (w : ℕ) →
    IsHistory setup (journal ++ more) → untouched w more ≡ true →
    ((at setup journal).producer w).undecided ≡ None → ((at setup (journal ++ more)).producer w).undecided ≡ None

-- a producer of the same epoch without waiting markers, which others could write
abbrev pub OpenStays : Type 0
OpenStays = (setup : Setup) (journal more : List Entry) (w e : ℕ) (t : TaskId) (q : PartId) →
    IsHistory setup (journal ++ more) → untouched w more ≡ true →
    ((at setup (journal ++ more)).producer w).epoch ≡ ((at setup journal).producer w).epoch →
    ((at setup journal).producer w).waiting ≡ [] →
    open_from w e t 0 ((at setup (journal ++ more)).partition q) ≡ open_from w e t 0 ((at setup journal).partition q)

abbrev pub FaithfulStays : Type 0
FaithfulStays = (setup : Setup) (journal more : List Entry) (w e : ℕ) → IsNetwork setup.plan →
    IsHistory setup (journal ++ more) → untouched w more ≡ true →
    CommitsFaithfully setup (at setup journal) (Decide w e true) →
    CommitsFaithfully setup (at setup (journal ++ more)) (Decide w e true)

-- ---- pending offsets (KIP-447)
-- no other producer has offsets of the task pending
abbrev pub NoneElsewhere : State → TaskId → ℕ → Type 0
NoneElsewhere s t w = (v : ℕ) → v ≢ w → has_pending (s.producer v) t ≡ false

abbrev pub OnePending : Type 0
OnePending = (setup : Setup) (journal : List Entry) (t : TaskId) (w : ℕ) → IsHistory setup journal →
    has_pending ((at setup journal).producer w) t ≡ true → NoneElsewhere (at setup journal) t w

-- ---- places in a partition
-- all of these records stand at or past an offset
abbrev pub AllFrom : ℕ → List Logged → Type 0
AllFrom low [] = Unit {0}
AllFrom low (x ∷ xs) = (low ≤ x.offset) × AllFrom low xs
