-- Journals that go on, and journals cut short.
use Rattle.std.proofs.Common.{◌≡◌, ◌+◌, ◌∙◌, ◌≤◌, suc, true, false, Some, None, List, [], ◌∷◌, ◌++◌, length, refl, subst, arith}
use Rattle.ks_history.specs.declared.journal.Entry.{Entry}
use Rattle.ks_history.specs.declared.partition.Slot.{Slot}
use Rattle.ks_history.specs.declared.partition.Slot.TheVariants.{Plain, Sent, Mark}
use Rattle.ks_history.specs.Partition.{by_mark, next_mark, stable}
use Rattle.ks_history.specs.State.{State, Setup, start}
use Rattle.ks_history.specs.Step.{refusal, after}
use Rattle.ks_history.specs.Count.{records_by, records_from, records_in}
use Rattle.ks_history.specs.History.{state_after, at, Each, IsStep, IsFaithfulEntry, IsHistory, IsPrefix}

pub state_after-append : (setup : Setup) (s : State) (xs ys : List Entry) → state_after setup s (xs ++ ys) ≡ state_after setup (state_after setup s xs) ys
state_after-append setup s [] ys = refl
state_after-append setup s (x ∷ xs) ys = state_after-append setup (after setup s x.request) xs ys

pub Each-append : (P : Setup → State → Entry → Type 0) (setup : Setup) (s : State) (xs ys : List Entry) → Each P setup s xs → Each P setup (state_after setup s xs) ys → Each P setup s (xs ++ ys)
Each-append P setup s [] ys p q = q
Each-append P setup s (x ∷ xs) ys p q = (p.0, Each-append P setup (after setup s x.request) xs ys p.1 q)

pub Each-front : (P : Setup → State → Entry → Type 0) (setup : Setup) (s : State) (xs ys : List Entry) → Each P setup s (xs ++ ys) → Each P setup s xs
Each-front P setup s [] ys p = tt
Each-front P setup s (x ∷ xs) ys p = (p.0, Each-front P setup (after setup s x.request) xs ys p.1)

pub at-more : (setup : Setup) (journal : List Entry) (entry : Entry) → at setup (journal ++ entry ∷ []) ≡ after setup (at setup journal) entry.request
at-more setup journal entry = state_after-append setup start journal (entry ∷ [])

pub history_more : (setup : Setup) (journal : List Entry) (entry : Entry) → IsHistory setup journal → IsStep setup (at setup journal) entry → IsFaithfulEntry setup (at setup journal) entry → IsHistory setup (journal ++ entry ∷ [])
history_more setup journal entry h step faithful = record {
  legal = Each-append IsStep setup start journal (entry ∷ []) h.legal (step, tt);
  faithful = Each-append IsFaithfulEntry setup start journal (entry ∷ []) h.faithful (faithful, tt);
}

pub history_front : (setup : Setup) (front whole : List Entry) → IsPrefix front whole → IsHistory setup whole → IsHistory setup front
history_front setup front whole prefix h =
    let g : IsHistory setup (front ++ prefix.0) = subst (IsHistory setup) prefix.1 h in
    record {
      legal = Each-front IsStep setup start front prefix.0 g.legal;
      faithful = Each-front IsFaithfulEntry setup start front prefix.0 g.faithful;
    }

pub stable-le : (slots : List Slot) → stable slots ≤ length slots
stable-le [] = omega arith
stable-le (Plain rec ∷ slots) = omega (arith, stable-le slots)
stable-le (Sent w e number task rec ∷ slots) =
    let h : stable slots ≤ length slots = stable-le slots in
    elim (next_mark w e slots) as (λ m. by_mark m 0 (suc (stable slots)) (suc (stable slots)) ≤ suc (length slots)) [
      | None ↦ omega arith
      | Some commit ↦ elim commit as (λ c. by_mark (Some c) 0 (suc (stable slots)) (suc (stable slots)) ≤ suc (length slots)) [ true ↦ omega arith | false ↦ omega arith ]
    ]
stable-le (Mark w e commit ∷ slots) = omega (arith, stable-le slots)

-- ---- the count of records
records_from-append : (setup : Setup) (s : State) (xs ys : List Entry) → records_from setup s (xs ++ ys) ≡ records_from setup s xs + records_from setup (state_after setup s xs) ys
records_from-append setup s [] ys = omega arith
records_from-append setup s (x ∷ xs) ys = omega (arith, records_from-append setup (after setup s x.request) xs ys)

pub records_in-more : (setup : Setup) (journal : List Entry) (entry : Entry) →
    records_in setup (journal ++ entry ∷ []) ≡ records_in setup journal + records_by entry.request (refusal setup (at setup journal) entry.request)
records_in-more setup journal entry = records_from-append setup start journal (entry ∷ []) ∙ omega arith
