-- A transaction's records of a task, beside the task's decided ones.
use Rattle.std.proofs.Common.{◌≡◌, ℕ, suc, ◌+◌, ◌≤◌, Bool, true, false, cond, ◌&&◌, nat_le, List, [], ◌∷◌, ◌++◌, Option, Some, None, refl, sym, ap, ap₂, subst, ◌∙◌, arith}
use Rattle.std.specs.Prelude.{◌==◌}
use Rattle.std.proofs.lemmas.Bool.{and_parts, eqb-true, le-leb, lt-leb}
use Rattle.ks_record.specs.Records.{Record as Rec}
use Rattle.ks_record.specs.declared.record.PartId.{PartId}
use Rattle.ks_record.specs.declared.record.TaskId.{TaskId}
use Rattle.ks_record.specs.Parts.{same_task}
use Rattle.ks_def_runs.specs.Run.{same_sender}
use Rattle.ks_history.specs.declared.partition.Slot.{Slot}
use Rattle.ks_history.specs.declared.partition.Slot.TheVariants.{Plain, Sent, Mark}
use Rattle.ks_history.specs.declared.journal.Entry.{Entry}
use Rattle.ks_history.specs.declared.transaction.Transaction.{Transaction}
use Rattle.ks_history.specs.Partition.{Logged, next_mark, is_commit, is_none, decision, decided_from, by_sender, with_offsets, past_last, is_open, open_from, none_decided, is_behind}
use Rattle.ks_history.specs.State.{State, Setup, start}
use Rattle.ks_history.specs.Faithful.{decided, marker_among, waiting_at, markers_of}
use Rattle.ks_history.specs.History.{at, state_after}
use Rattle.ks_history.proofs.Histories.{state_after-append}
use Rattle.ks_law_exactly_once.proofs.Replays.{whole}
use Rattle.ks_law_exactly_once.proofs.Slots.{Rising, decided_rises}
use Rattle.ks_law_restore.proofs.Growing.{Rests, rests_after}
use Rattle.ks_law_restore.proofs.Lasting.{first_before_last, then_faithful, then_sound}
use Rattle.ks_law_restore.proofs.Offsets.{rising_less}
use Rattle.ks_law_audit.specs.Laws.{is_past, last_end, BehindIsTold, EndStays}

abbrev none_there : List Logged → Bool
none_there [] = true
none_there (x ∷ xs) = false

-- ---- rising lists
sender_rises : (t : TaskId) (n : ℕ) (xs : List Logged) → Rising n xs → Rising n (by_sender (Some t) xs)
sender_rises t n [] r = tt
sender_rises t n (x ∷ xs) r = by (same_sender same_task (Some t) x.sender) (sender_rises t (x.offset + 1) xs r.1)
  where
    by : (b : Bool) → Rising (x.offset + 1) (by_sender (Some t) xs) → Rising n (cond b (x ∷ by_sender (Some t) xs) (by_sender (Some t) xs))
    by true e = (r.0, e)
    by false e = rising_less n (x.offset + 1) (by_sender (Some t) xs) (omega (arith, r.0)) e

past_at : (n : ℕ) (xs : List Logged) → Rising (n + 1) xs → nat_le (past_last (with_offsets xs)) n ≡ none_there xs
past_at n [] r = le-leb 0 n (omega arith)
past_at n (x ∷ xs) r = lt-leb (past_last (with_offsets (x ∷ xs))) n (omega (arith, first_before_last (n + 1) x xs r, r.0))

module _ (waiting : ℕ → ℕ → Option Bool) (w e : ℕ) (t : TaskId) (free : waiting w e ≡ None) where
  abbrev mine : ℕ → List Slot → List Logged
  mine n slots = by_sender (Some t) (decided_from waiting n slots)

  -- ---- none decided
  none_is : (n : ℕ) (slots : List Slot) → none_decided waiting t slots ≡ none_there (by_sender (Some t) (decided_from waiting n slots))
  none_is n [] = refl
  none_is n (Plain rec ∷ slots) = none_is (n + 1) slots
  none_is n (Mark v d commit ∷ slots) = none_is (n + 1) slots
  none_is n (Sent v d number task rec ∷ slots) = by (same_task t task) (is_commit (decision (next_mark v d slots) (waiting v d))) refl (none_is (n + 1) slots)
    where
      by : (a b : Bool) → same_task t task ≡ a → none_decided waiting t slots ≡ none_there (by_sender (Some t) (decided_from waiting (n + 1) slots)) →
          cond (a && b) false (none_decided waiting t slots)
          ≡ none_there (by_sender (Some t) (cond b (record { offset = n; sender = Some task; rec = rec } ∷ decided_from waiting (n + 1) slots) (decided_from waiting (n + 1) slots)))
      by true true h g = sym (ap (λ c. none_there (cond c (record { offset = n; sender = Some task; rec = rec } ∷ by_sender (Some t) (decided_from waiting (n + 1) slots)) (by_sender (Some t) (decided_from waiting (n + 1) slots)))) h)
      by true false h g = g
      by false true h g = g ∙ sym (ap (λ c. none_there (cond c (record { offset = n; sender = Some task; rec = rec } ∷ by_sender (Some t) (decided_from waiting (n + 1) slots)) (by_sender (Some t) (decided_from waiting (n + 1) slots)))) h)
      by false false h g = g

  -- ---- open records
  open_above : (n : ℕ) (slots : List Slot) → is_past n (open_from w e t n slots) ≡ true
  open_above n slots = from n n slots (omega arith)
    where
      from : (m n : ℕ) (slots : List Slot) → m ≤ n → is_past m (open_from w e t n slots) ≡ true
      from m n [] h = refl
      from m n (Plain rec ∷ slots) h = from m (n + 1) slots (omega (arith, h))
      from m n (Mark v d commit ∷ slots) h = from m (n + 1) slots (omega (arith, h))
      from m n (Sent v d number task rec ∷ slots) h = by (is_open w e t v d task (next_mark v d slots)) (from m (n + 1) slots (omega (arith, h)))
        where
          by : (b : Bool) → is_past m (open_from w e t (n + 1) slots) ≡ true → is_past m (cond b (record { offset = n; sender = Some task; rec = rec } ∷ open_from w e t (n + 1) slots) (open_from w e t (n + 1) slots)) ≡ true
          by true g = le-leb m n h
          by false g = g

  zero_past : (xs : List Logged) → is_past 0 xs ≡ true
  zero_past [] = refl
  zero_past (x ∷ xs) = le-leb 0 x.offset (omega arith)

  -- one more decided record before others changes nothing
  one_before : (n : ℕ) (task : TaskId) (rec : Rec) (slots : List Slot) (a b : Bool) →
      is_past (past_last (with_offsets (cond b (cond a (record { offset = n; sender = Some task; rec = rec } ∷ by_sender (Some t) (decided_from waiting (n + 1) slots)) (by_sender (Some t) (decided_from waiting (n + 1) slots))) (by_sender (Some t) (decided_from waiting (n + 1) slots))))) (open_from w e t (n + 1) slots)
      ≡ is_past (past_last (with_offsets (by_sender (Some t) (decided_from waiting (n + 1) slots)))) (open_from w e t (n + 1) slots)
  one_before n task rec slots a false = refl
  one_before n task rec slots false true = refl
  one_before n task rec slots true true = by (by_sender (Some t) (decided_from waiting (n + 1) slots))
    where
      by : (xs : List Logged) → is_past (past_last (with_offsets (record { offset = n; sender = Some task; rec = rec } ∷ xs))) (open_from w e t (n + 1) slots) ≡ is_past (past_last (with_offsets xs)) (open_from w e t (n + 1) slots)
      by [] = open_above (n + 1) slots ∙ sym (zero_past (open_from w e t (n + 1) slots))
      by (x ∷ xs) = refl

  -- ---- the first open record
  and_four : (a b c d : Bool) → (((a && b) && c) && d) ≡ true → (a ≡ true) × (b ≡ true) × (d ≡ true)
  and_four true true true true h = (refl, refl, refl)
  and_four false b c d h = absurd cc
  and_four true false c d h = absurd cc
  and_four true true false d h = absurd cc
  and_four true true true false h = absurd cc

  undecided_one : (v d : ℕ) (task : TaskId) (mark : Option Bool) → is_open w e t v d task mark ≡ true → is_commit (decision mark (waiting v d)) ≡ false
  undecided_one v d task (Some commit) h = let g = (and_four (w == v) (e == d) (same_task t task) false h).2 in absurd cc
  undecided_one v d task None h =
      let g = and_four (w == v) (e == d) (same_task t task) true h in
      ap is_commit (ap₂ waiting (sym (eqb-true w v g.0)) (sym (eqb-true e d g.1)) ∙ free)

  pub behind_is : (n : ℕ) (slots : List Slot) → is_behind waiting w e t slots ≡ is_past (past_last (with_offsets (by_sender (Some t) (decided_from waiting n slots)))) (open_from w e t n slots)
  behind_is n [] = refl
  behind_is n (Plain rec ∷ slots) = behind_is (n + 1) slots
  behind_is n (Mark v d commit ∷ slots) = behind_is (n + 1) slots
  behind_is n (Sent v d number task rec ∷ slots) =
      by (is_open w e t v d task (next_mark v d slots)) (is_commit (decision (next_mark v d slots) (waiting v d))) (undecided_one v d task (next_mark v d slots)) (behind_is (n + 1) slots)
    where
      by : (o c : Bool) → (o ≡ true → c ≡ false) → is_behind waiting w e t slots ≡ is_past (past_last (with_offsets (by_sender (Some t) (decided_from waiting (n + 1) slots)))) (open_from w e t (n + 1) slots) →
          cond o (none_decided waiting t slots) (is_behind waiting w e t slots)
          ≡ is_past (past_last (with_offsets (by_sender (Some t) (cond c (record { offset = n; sender = Some task; rec = rec } ∷ decided_from waiting (n + 1) slots) (decided_from waiting (n + 1) slots)))))
          (cond o (record { offset = n; sender = Some task; rec = rec } ∷ open_from w e t (n + 1) slots) (open_from w e t (n + 1) slots))
      by true c f g =
          none_is (n + 1) slots
          ∙ sym (past_at n (by_sender (Some t) (decided_from waiting (n + 1) slots)) (sender_rises t (n + 1) (decided_from waiting (n + 1) slots) (decided_rises waiting (n + 1) slots)))
          ∙ ap (λ b. nat_le (past_last (with_offsets (by_sender (Some t) (cond b (record { offset = n; sender = Some task; rec = rec } ∷ decided_from waiting (n + 1) slots) (decided_from waiting (n + 1) slots))))) n) (sym (f refl))
      by false true f g = g ∙ sym (one_before n task rec slots (same_task t task) true)
      by false false f g = g

pub behind_is_told : BehindIsTold
behind_is_told setup journal w tx t q net history is =
    let s : State = at setup journal in
    let empty : (s.producer w).waiting ≡ [] = (whole setup net journal history).sound.markers w tx is in
    behind_is (waiting_at (markers_of s) q) w (s.producer w).epoch t (ap (marker_among q (s.producer w).epoch) empty) 0 (s.partition q)

pub end_stays : EndStays
end_stays setup journal entry t q net history none =
    let s : State = at setup journal in
    let rests : Rests t s (state_after setup (at setup journal) (entry ∷ [])) = rests_after setup net t (entry ∷ []) s (then_faithful setup net journal (entry ∷ []) history) (then_sound setup net journal (entry ∷ []) history) none in
    ap (λ (k : State). last_end k t q) (state_after-append setup start journal (entry ∷ []))
    ∙ ap (λ l. past_last (with_offsets l)) (rests.own q)
