-- The pairs that readers are given are the records of the partition with their offsets.
use Rattle.std.proofs.Common.{◌≡◌, ℕ, ◌+◌, Bool, true, false, cond, List, [], ◌∷◌, Option, Some, None, refl, ap, ◌∙◌}
use Rattle.std.specs.Prelude.{nat_le}
use Rattle.ks_history.specs.declared.partition.Slot.{Slot}
use Rattle.ks_history.specs.declared.partition.Slot.TheVariants.{Plain, Sent, Mark}
use Rattle.ks_history.specs.Partition.{Logged, next_mark, by_mark, decision, is_commit, readable_from, decided_from, with_offsets, past_from}
use Rattle.ks_log.specs.Reading.{readable_pairs, decided_pairs, at_or_past}

pub at_or_past-with : (from : ℕ) (xs : List Logged) → at_or_past from (with_offsets xs) ≡ with_offsets (past_from from xs)
at_or_past-with from [] = refl
at_or_past-with from (x ∷ xs) = by_test (nat_le from x.offset) (at_or_past-with from xs)
  where
    by_test : (b : Bool) → at_or_past from (with_offsets xs) ≡ with_offsets (past_from from xs) → cond b ((x.offset, x.rec) ∷ at_or_past from (with_offsets xs)) (at_or_past from (with_offsets xs)) ≡ with_offsets (cond b (x ∷ past_from from xs) (past_from from xs))
    by_test true h = ap (λ l. (x.offset, x.rec) ∷ l) h
    by_test false h = h

pub readable-is : (at : ℕ) (slots : List Slot) → readable_pairs at slots ≡ with_offsets (readable_from at slots)
readable-is at [] = refl
readable-is at (Plain rec ∷ slots) = ap (λ l. (at, rec) ∷ l) (readable-is (at + 1) slots)
readable-is at (Sent w e number task rec ∷ slots) = by_next (next_mark w e slots) (readable-is (at + 1) slots)
  where
    by_next : (m : Option Bool) → readable_pairs (at + 1) slots ≡ with_offsets (readable_from (at + 1) slots) → by_mark m [] ((at, rec) ∷ readable_pairs (at + 1) slots) (readable_pairs (at + 1) slots)
        ≡ with_offsets (by_mark m [] (record { offset = at; sender = Some task; rec = rec } ∷ readable_from (at + 1) slots) (readable_from (at + 1) slots))
    by_next None h = refl
    by_next (Some true) h = ap (λ l. (at, rec) ∷ l) h
    by_next (Some false) h = h
readable-is at (Mark w e commit ∷ slots) = readable-is (at + 1) slots

pub decided-is : (f g : ℕ → ℕ → Option Bool) → ((w e : ℕ) → f w e ≡ g w e) → (at : ℕ) (slots : List Slot) → decided_pairs f at slots ≡ with_offsets (decided_from g at slots)
decided-is f g same at [] = refl
decided-is f g same at (Plain rec ∷ slots) = ap (λ l. (at, rec) ∷ l) (decided-is f g same (at + 1) slots)
decided-is f g same at (Sent w e number task rec ∷ slots) =
    ap (λ o. by_mark (decision (next_mark w e slots) o) (decided_pairs f (at + 1) slots) ((at, rec) ∷ decided_pairs f (at + 1) slots) (decided_pairs f (at + 1) slots)) (same w e)
    ∙ by_decision (decision (next_mark w e slots) (g w e)) (decided-is f g same (at + 1) slots)
  where
    by_decision : (m : Option Bool) → decided_pairs f (at + 1) slots ≡ with_offsets (decided_from g (at + 1) slots) → by_mark m (decided_pairs f (at + 1) slots) ((at, rec) ∷ decided_pairs f (at + 1) slots) (decided_pairs f (at + 1) slots)
        ≡ with_offsets (cond (is_commit m) (record { offset = at; sender = Some task; rec = rec } ∷ decided_from g (at + 1) slots) (decided_from g (at + 1) slots))
    by_decision None h = h
    by_decision (Some true) h = ap (λ l. (at, rec) ∷ l) h
    by_decision (Some false) h = h
decided-is f g same at (Mark w e commit ∷ slots) = decided-is f g same (at + 1) slots
