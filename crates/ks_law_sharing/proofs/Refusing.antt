-- Which refusals the requests of a commit can get.
use Rattle.std.proofs.Common.{◌≡◌, ◌≢◌, ◌⊎◌, inl, inr, ℕ, zero, suc, ◌+◌, ◌&&◌, Bool, true, false, not, cond, List, [], ◌∷◌, ◌++◌, length, Option, Some, None, refl, sym, ap, subst, ◌∙◌, arith}
use Rattle.std.specs.Prelude.{◌==◌}
use Rattle.std.proofs.lemmas.Bool.{eqb-true, eq-eqb, true≢false}
use Rattle.ks_record.specs.declared.record.PartId.{PartId}
use Rattle.ks_record.specs.declared.record.TaskId.{TaskId}
use Rattle.ks_record.specs.declared.assignment.Refused.{Refused}
use Rattle.ks_record.specs.declared.assignment.Refused.TheVariants.{Fenced, OldGeneration, MarkersWaiting, NotAssigned, NoTransaction, AlreadyDecided, OutOfSequence, Unstable}
use Rattle.ks_record.specs.declared.assignment.Marker.{Marker}
use Rattle.ks_history.specs.declared.transaction.Producer.{Producer}
use Rattle.ks_history.specs.declared.transaction.Transaction.{Transaction}
use Rattle.ks_history.specs.Partition.{count_sent}
use Rattle.ks_history.specs.State.{State, has_part}
use Rattle.ks_history.specs.Step.{or_else, fenced, markers_waiting, without_part, out_of_sequence, none_undecided, old_generation, owner, not_assigned, has_pending, unstable_from, unstable_beside, tx_of, no_tx}
use Rattle.ks_history.specs.History.{at}
use Rattle.ks_law_sharing.specs.Tasks.{IsAssigned}
use Rattle.ks_law_sharing.specs.Refusals.{IsFencing, IsMarkersWaiting, IsWaiting, AddRefused, AppendRefused, OffsetsRefused, DecideRefused, MarkersWaitedBefore}
use Rattle.ks_law_sharing.proofs.Rising.{epoch_rises}
use Rattle.ks_law_sharing.proofs.Leaving.{journal_leaves, is_same}

some_same : (x y : Refused) → Some x ≡ Some y → x ≡ y
some_same x y e = cc

-- fenced, or the epoch is the producer's and the rest refused
fence_or : (p : Producer) (e : ℕ) (more : Option Refused) (r : Refused) → or_else (fenced p e) more ≡ Some r → IsFencing r ⊎ ((e ≡ p.epoch) × (more ≡ Some r))
fence_or p e more r is = by (e == p.epoch) refl is
  where
    by : (b : Bool) → (e == p.epoch) ≡ b → or_else (cond b None (Some (Fenced p.epoch))) more ≡ Some r → IsFencing r ⊎ ((e ≡ p.epoch) × (more ≡ Some r))
    by true h g = inr (eqb-true e p.epoch h, g)
    by false h g = inl (subst IsFencing (some_same (Fenced p.epoch) r g) tt)

-- markers wait
waiting_for : (p : Producer) (r : Refused) → markers_waiting p ≡ Some r → IsMarkersWaiting r × p.waiting ≢ []
waiting_for p r is = by p.undecided p.waiting refl is
  where
    by : (u : Option Transaction) (ms : List Marker) → p.waiting ≡ ms → (elim u as (λ _. Option Refused) [ Some tx ↦ None | None ↦ elim ms as (λ _. Option Refused) [ [] ↦ None | m ∷ rest ↦ Some (MarkersWaiting (length (m ∷ rest))) ] ]) ≡ Some r → IsMarkersWaiting r × p.waiting ≢ []
    by (Some tx) ms h g = absurd cc
    by None [] h g = absurd cc
    by None (m ∷ rest) h g = (subst IsMarkersWaiting (some_same (MarkersWaiting (length (m ∷ rest))) r g) tt, λ empty. absurd cc)

either_refused : (a b : Option Refused) (r : Refused) → or_else a b ≡ Some r → (a ≡ Some r) ⊎ (b ≡ Some r)
either_refused None b r is = inr is
either_refused (Some x) b r is = inl is

is_waiting : (s : State) (w e : ℕ) (r : Refused) → e ≡ (s.producer w).epoch → markers_waiting (s.producer w) ≡ Some r → IsWaiting s w e r
is_waiting s w e r epoch is = let found = waiting_for (s.producer w) r is in record { epoch = sym epoch; why = found.0; waits = found.1 }

pub add_refused : AddRefused
add_refused setup s w e p r is = by (fence_or (s.producer w) e (markers_waiting (s.producer w)) r is)
  where
    by : IsFencing r ⊎ ((e ≡ (s.producer w).epoch) × (markers_waiting (s.producer w) ≡ Some r)) → IsFencing r ⊎ IsWaiting s w e r
    by (inl f) = inl f
    by (inr g) = inr (is_waiting s w e r g.0 g.1)

-- the part is there
part_there : (p : Producer) (part : PartId) (r : Refused) → has_part part (tx_of p).parts ≡ true → without_part p part ≡ Some r → ⊥
part_there p part r has is = by p.undecided has is
  where
    by : (u : Option Transaction) → has_part part (elim u as (λ _. Transaction) [ None ↦ no_tx | Some tx ↦ tx ]).parts ≡ true
        → (elim u as (λ _. Option Refused) [ None ↦ Some NoTransaction | Some tx ↦ cond (has_part part tx.parts) None (Some NoTransaction) ]) ≡ Some r → ⊥
    by None has g = true≢false (sym has)
    by (Some tx) has g = there (has_part part tx.parts) has g
      where
        there : (b : Bool) → b ≡ true → cond b None (Some NoTransaction) ≡ Some r → ⊥
        there true h g = absurd cc
        there false h g = true≢false (sym h)

in_sequence : (n m : ℕ) (r : Refused) → n ≡ m → cond (n == m) None (Some (OutOfSequence m)) ≡ Some r → ⊥
in_sequence n m r same is = by (n == m) (eq-eqb n m same) is
  where
    by : (b : Bool) → b ≡ true → cond b None (Some (OutOfSequence m)) ≡ Some r → ⊥
    by true h g = absurd cc
    by false h g = true≢false (sym h)

pub append_refused : AppendRefused
append_refused setup s w e number t p rs r is has same = by (fence_or (s.producer w) e _ r is)
  where
    next : (without_part (s.producer w) p ≡ Some r) ⊎ (out_of_sequence (s.partition p) w e number ≡ Some r) → IsFencing r
    next (inl g) = absurd (part_there (s.producer w) p r has g)
    next (inr g) = absurd (in_sequence number (count_sent w e (s.partition p)) r same g)

    by : IsFencing r ⊎ ((e ≡ (s.producer w).epoch) × (or_else (without_part (s.producer w) p) (out_of_sequence (s.partition p) w e number) ≡ Some r)) → IsFencing r
    by (inl f) = f
    by (inr g) = next (either_refused (without_part (s.producer w) p) (out_of_sequence (s.partition p) w e number) r g.1)

-- nothing is pending beside
none_pending : (s : State) (w : ℕ) (t : TaskId) → ((v : ℕ) → v ≢ w → has_pending (s.producer v) t ≡ false) → (v left : ℕ) → unstable_from s t (λ v. not (v == w)) v left ≡ None
none_pending s w t quiet v zero = refl
none_pending s w t quiet v (suc left) = by (v == w) refl (none_pending s w t quiet (v + 1) left)
  where
    by : (b : Bool) → (v == w) ≡ b → unstable_from s t (λ v. not (v == w)) (v + 1) left ≡ None
        → cond (not b && has_pending (s.producer v) t) (Some (Unstable v)) (unstable_from s t (λ v. not (v == w)) (v + 1) left) ≡ None
    by true h on = on
    by false h on = ap (λ b. cond b (Some (Unstable v)) (unstable_from s t (λ v. not (v == w)) (v + 1) left)) (quiet v (λ g. true≢false (sym (eq-eqb v w g) ∙ h))) ∙ on

assigned : (s : State) (w : ℕ) (t : TaskId) → owner s t ≡ Some w → not_assigned s w t ≡ None
assigned s w t is =
    ap (λ (o : Option ℕ). elim o as (λ _. Option Refused) [ None ↦ Some (NotAssigned None) | Some v ↦ cond (v == w) None (Some (NotAssigned (Some v))) ]) is
    ∙ ap (λ b. cond b None (Some (NotAssigned (Some w)))) (eq-eqb w w refl)

pub offsets_refused : OffsetsRefused
offsets_refused setup s w e g t offsets order late r is held = by (fence_or (s.producer w) e _ r is)
  where
    last : e ≡ (s.producer w).epoch → IsAssigned s w g t → (markers_waiting (s.producer w) ≡ Some r) ⊎ (unstable_beside s w t ≡ Some r) → IsFencing r ⊎ IsWaiting s w e r
    last epoch h (inl q) = inr (is_waiting s w e r epoch q)
    last epoch h (inr q) = none_some (none_pending s w t h.pending 0 17) q
      where
        none_some : unstable_from s t (λ v. not (v == w)) 0 17 ≡ None → unstable_from s t (λ v. not (v == w)) 0 17 ≡ Some r → IsFencing r ⊎ IsWaiting s w e r
        none_some n q = absurd cc

    third : e ≡ (s.producer w).epoch → IsAssigned s w g t → (not_assigned s w t ≡ Some r) ⊎ (or_else (markers_waiting (s.producer w)) (unstable_beside s w t) ≡ Some r) → IsFencing r ⊎ IsWaiting s w e r
    third epoch h (inl q) = none_some (assigned s w t h.place) q
      where
        none_some : not_assigned s w t ≡ None → not_assigned s w t ≡ Some r → IsFencing r ⊎ IsWaiting s w e r
        none_some n q = absurd cc
    third epoch h (inr q) = last epoch h (either_refused _ _ r q)

    old : e ≡ (s.producer w).epoch → (b : Bool) → (g == s.generation) ≡ b → or_else (cond b None (Some (OldGeneration s.generation))) (or_else (not_assigned s w t) (or_else (markers_waiting (s.producer w)) (unstable_beside s w t))) ≡ Some r → IsFencing r ⊎ IsWaiting s w e r
    old epoch true h q = third epoch (held (sym (eqb-true g s.generation h))) (either_refused _ _ r q)
    old epoch false h q = inl (subst IsFencing (some_same (OldGeneration s.generation) r q) tt)

    by : IsFencing r ⊎ ((e ≡ (s.producer w).epoch) × (or_else (old_generation s g) (or_else (not_assigned s w t) (or_else (markers_waiting (s.producer w)) (unstable_beside s w t))) ≡ Some r)) → IsFencing r ⊎ IsWaiting s w e r
    by (inl f) = inl f
    by (inr q) = old q.0 (g == s.generation) refl q.1

pub decide_refused : DecideRefused
decide_refused setup s w e commit r is some = by (fence_or (s.producer w) e _ r is)
  where
    there : (u : Option Transaction) (l : Option Bool) → (s.producer w).undecided ≡ u → (elim u as (λ _. Option Refused) [ Some tx ↦ None | None ↦ elim l as (λ _. Option Refused) [ None ↦ Some NoTransaction | Some c ↦ Some (AlreadyDecided c) ] ]) ≡ Some r → IsFencing r
    there (Some tx) l h g = absurd cc
    there None l h g = absurd (some h)

    by : IsFencing r ⊎ ((e ≡ (s.producer w).epoch) × (none_undecided (s.producer w) ≡ Some r)) → IsFencing r
    by (inl f) = f
    by (inr g) = there (s.producer w).undecided (s.producer w).last refl g.1

-- ---- markers that wait
pub markers_waited_before : MarkersWaitedBefore
markers_waited_before setup journal more w e r history quiet past waiting empty =
    let l = journal_leaves setup journal more w history quiet in
    let same : ((at setup (journal ++ more)).producer w).epoch ≡ ((at setup journal).producer w).epoch = omega (arith, waiting.epoch, past, epoch_rises setup journal more w) in
    waiting.waits (ap (λ (p : Producer). p.waiting) (is_same w (at setup journal) (at setup (journal ++ more)) l empty same).0 ∙ empty)
