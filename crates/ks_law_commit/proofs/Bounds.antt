-- Where fetches go on, that the last stable offset never falls, and that replicas stand within their changelogs.
use Rattle.std.proofs.Common.{◌≡◌, inl, inr, ℕ, zero, suc, ◌+◌, ◌≤◌, ◌<◌, Bool, true, false, cond, List, [], ◌∷◌, length, take, Option, Some, None, refl, sym, subst, arith}
use Rattle.std.specs.Prelude.{◌==◌, max, nat_le}
use Rattle.std.proofs.lemmas.Bool.{eqb-true, leb-true}
use Rattle.ks_record.specs.declared.record.PartId.{PartId}
use Rattle.ks_history.specs.declared.partition.Slot.{Slot}
use Rattle.ks_history.specs.declared.partition.Slot.TheVariants.{Plain, Sent, Mark}
use Rattle.ks_history.specs.Partition.{Logged, by_mark, next_mark, stable, readable_from, readable, with_offsets, past_from, past_last, read, decided_from, decision, is_commit}
use Rattle.ks_history.specs.State.{State, start}
use Rattle.ks_history.specs.Faithful.{waiting_at, markers_of}
use Rattle.ks_history.specs.Follows.{IsReached}
use Rattle.ks_history.specs.History.{at}
use Rattle.ks_history.proofs.Histories.{state_after-append, stable-le}
use Rattle.ks_law_exactly_once.proofs.Slots.{Waiting}
use Rattle.ks_law_restore.proofs.Lasting.{then_grown}
use Rattle.ks_law_commit.specs.Bounds.{stable_of, FetchGoesOn, FetchesGoOn, StableRises, ReplicaIsWithin}

-- ---- readable records rise, below the stable offset
-- offsets from `low` on rise, below `high`
abbrev Rises : ℕ → ℕ → List Logged → Type 0
Rises low high [] = Unit {0}
Rises low high (x ∷ xs) = (low ≤ x.offset) × (x.offset < high) × Rises (x.offset + 1) high xs

rises_within : (low more high most : ℕ) (xs : List Logged) → low ≤ more → high ≤ most → Rises more high xs → Rises low most xs
rises_within low more high most [] h g r = tt
rises_within low more high most (x ∷ xs) h g r = (omega (arith, h, r.0), omega (arith, g, r.1), rises_within (x.offset + 1) (x.offset + 1) high most xs (omega arith) g r.2)

readable_rises : (at : ℕ) (slots : List Slot) → Rises at (at + stable slots) (readable_from at slots)
readable_rises at [] = tt
readable_rises at (Plain rec ∷ slots) = (omega arith, omega arith, rises_within (at + 1) (at + 1) _ _ (readable_from (at + 1) slots) (omega arith) (omega arith) (readable_rises (at + 1) slots))
readable_rises at (Sent w e number task rec ∷ slots) = by (next_mark w e slots) (readable_rises (at + 1) slots)
  where
    by : (d : Option Bool) → Rises (at + 1) ((at + 1) + stable slots) (readable_from (at + 1) slots) → Rises at (at + by_mark d 0 (suc (stable slots)) (suc (stable slots)))
        (by_mark d [] (record { offset = at; sender = Some task; rec = rec } ∷ readable_from (at + 1) slots) (readable_from (at + 1) slots))
    by None r = tt
    by (Some true) r = (omega arith, omega arith, rises_within (at + 1) (at + 1) _ _ (readable_from (at + 1) slots) (omega arith) (omega arith) r)
    by (Some false) r = rises_within at (at + 1) _ _ (readable_from (at + 1) slots) (omega arith) (omega arith) r
readable_rises at (Mark w e commit ∷ slots) = rises_within at (at + 1) _ _ (readable_from (at + 1) slots) (omega arith) (omega arith) (readable_rises (at + 1) slots)

past_rises : (from low high : ℕ) (xs : List Logged) → Rises low high xs → Rises (max from low) high (past_from from xs)
past_rises from low high [] r = tt
past_rises from low high (x ∷ xs) r = by (nat_le from x.offset) refl (past_rises from (x.offset + 1) high xs r.2)
  where
    by : (b : Bool) → nat_le from x.offset ≡ b → Rises (max from (x.offset + 1)) high (past_from from xs) →
        Rises (max from low) high (cond b (x ∷ past_from from xs) (past_from from xs))
    by true is more = (omega (arith, leb-true from x.offset is, r.0), r.1, rises_within (x.offset + 1) (max from (x.offset + 1)) high high (past_from from xs) (omega arith) (omega arith) more)
    by false is more = rises_within (max from low) (max from (x.offset + 1)) high high (past_from from xs) (omega (arith, r.0)) (omega arith) more

last_between : (n low high : ℕ) (xs : List Logged) → Rises low high xs → length (take (suc n) (with_offsets xs)) ≡ suc n →
    (low < past_last (take (suc n) (with_offsets xs))) × (past_last (take (suc n) (with_offsets xs)) ≤ high)
last_between n low high [] r e = absurd (omega (arith, e))
last_between zero low high (x ∷ xs) r e = (omega (arith, r.0), omega (arith, r.1))
last_between (suc k) low high (x ∷ []) r e = absurd (omega (arith, e))
last_between (suc k) low high (x ∷ y ∷ xs) r e =
    let more = last_between k (x.offset + 1) high (y ∷ xs) r.2 (omega (arith, e)) in
    (omega (arith, more.0, r.0), more.1)

pub fetches_go_on : FetchesGoOn
fetches_go_on s p from limit h some = by (length (read from limit (s.partition p)) == limit) refl
  where
    ahead : Rises from (stable (s.partition p)) (past_from from (readable (s.partition p)))
    ahead = rises_within from (max from 0) _ _ (past_from from (readable (s.partition p))) (omega arith) (omega arith)
        (past_rises from 0 (0 + stable (s.partition p)) (readable (s.partition p)) (readable_rises 0 (s.partition p)))

    full : (n : ℕ) → limit ≡ n → 1 ≤ n → length (take n (with_offsets (past_from from (readable (s.partition p))))) ≡ n →
        (from < past_last (take n (with_offsets (past_from from (readable (s.partition p)))))) × (past_last (take n (with_offsets (past_from from (readable (s.partition p))))) ≤ stable (s.partition p))
    full zero is g e = absurd (omega (arith, g))
    full (suc n) is g e = last_between n from (stable (s.partition p)) (past_from from (readable (s.partition p))) ahead e

    by : (b : Bool) → (length (read from limit (s.partition p)) == limit) ≡ b →
        FetchGoesOn s p from (cond b (past_last (read from limit (s.partition p))) (max from (stable (s.partition p))))
    by true is =
        let all = full limit refl some (eqb-true (length (read from limit (s.partition p))) limit is) in
        record { later = omega (arith, all.0); within = omega (arith, all.1, stable-le (s.partition p)); stops = λ e. absurd (omega (arith, e, all.0)) }
    by false is = record { later = omega arith; within = omega (arith, h, stable-le (s.partition p)); stops = λ e. omega (arith, e) }

pub stable_rises : StableRises
stable_rises setup journal more p net history =
    subst (λ (s : State). stable_of (at setup journal) p ≤ stable_of s p) (sym (state_after-append setup start journal more)) ((then_grown setup net journal more history).rises p)

-- ---- a replica's position
last_more : (x : Logged) (xs : List Logged) (n : ℕ) → x.offset < n → past_last (with_offsets xs) ≤ n → past_last (with_offsets (x ∷ xs)) ≤ n
last_more x [] n h g = omega (arith, h)
last_more x (y ∷ ys) n h g = g

last_within : (waiting : Waiting) (n at : ℕ) (slots : List Slot) → at + length slots ≤ n → past_last (with_offsets (decided_from waiting at slots)) ≤ n
last_within waiting n at [] h = omega arith
last_within waiting n at (Plain rec ∷ slots) h = last_more (record { offset = at; sender = None; rec = rec }) (decided_from waiting (at + 1) slots) n (omega (arith, h)) (last_within waiting n (at + 1) slots (omega (arith, h)))
last_within waiting n at (Sent w e number task rec ∷ slots) h = by (is_commit (decision (next_mark w e slots) (waiting w e))) (last_within waiting n (at + 1) slots (omega (arith, h)))
  where
    by : (b : Bool) → past_last (with_offsets (decided_from waiting (at + 1) slots)) ≤ n →
        past_last (with_offsets (cond b (record { offset = at; sender = Some task; rec = rec } ∷ decided_from waiting (at + 1) slots) (decided_from waiting (at + 1) slots))) ≤ n
    by true g = last_more (record { offset = at; sender = Some task; rec = rec }) (decided_from waiting (at + 1) slots) n (omega (arith, h)) g
    by false g = g
last_within waiting n at (Mark w e commit ∷ slots) h = last_within waiting n (at + 1) slots (omega (arith, h))

reached_within : (s : State) (p : PartId) (position : ℕ) → IsReached s p position → position ≤ length (s.partition p)
reached_within s p position (inl low) = omega (arith, low, stable-le (s.partition p))
reached_within s p position (inr last) = omega (arith, last, last_within (waiting_at (markers_of s) p) (length (s.partition p)) 0 (s.partition p) (omega arith))

pub replica_is_within : ReplicaIsWithin
replica_is_within setup journal r topic log follows = reached_within (at setup journal) _ (r.position topic) (follows.reached topic log)
