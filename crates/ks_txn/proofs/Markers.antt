-- The markers that wait for the partitions of a decided transaction.
use Rattle.std.proofs.Common.{◌≡◌, ℕ, zero, suc, ◌+◌, ◌-◌, Bool, Option, None, List, [], ◌∷◌, length, drop, refl, sym, ap, ◌∙◌, arith}
use Rattle.std.proofs.lemmas.List.{length-drop}
use Rattle.ks_record.specs.declared.record.PartId.{PartId}
use Rattle.ks_record.specs.declared.assignment.Marker.{Marker}
use Rattle.ks_history.specs.declared.transaction.Producer.{Producer}
use Rattle.ks_history.specs.Step.{markers_for}
use Rattle.ks_txn.specs.declared.txn.Stage.{Stage}
use Rattle.ks_txn.specs.declared.txn.Stage.TheVariants.{Decided}
use Rattle.ks_txn.specs.Stages.{seen, waiting_in}

length-markers : (e : ℕ) (c : Bool) (parts : List PartId) → length (markers_for e c parts) ≡ length parts
length-markers e c [] = refl
length-markers e c (p ∷ ps) = ap suc (length-markers e c ps)

pub waiting-is : (epoch : ℕ) (last : Option Bool) (parts : List PartId) (stage : Stage) (e : ℕ) (c : Bool) (n len : ℕ) (p : Producer) → seen epoch last parts stage ≡ p
    → stage ≡ Decided e c n → len ≡ length parts → len - n ≡ length p.waiting
waiting-is epoch last parts stage e c n len p view is count =
    let left : len - n ≡ length (drop n parts) = let h = length-drop n parts in omega (arith, h, count) in
    left ∙ sym (length-markers e c (drop n parts)) ∙ ap (λ s. length (waiting_in s parts)) (sym is) ∙ ap (λ (q : Producer). length q.waiting) view

drop_next : (n : ℕ) (parts : List PartId) → drop 1 (drop n parts) ≡ drop (suc n) parts
drop_next zero parts = refl
drop_next (suc n) [] = refl
drop_next (suc n) (p ∷ ps) = drop_next n ps

drop_one : (e : ℕ) (c : Bool) (parts : List PartId) → drop 1 (markers_for e c parts) ≡ markers_for e c (drop 1 parts)
drop_one e c [] = refl
drop_one e c (p ∷ ps) = refl

pub marked-is : (epoch : ℕ) (last : Option Bool) (parts : List PartId) (stage : Stage) (e : ℕ) (c : Bool) (n : ℕ) (p : Producer) → seen epoch last parts stage ≡ p
    → stage ≡ Decided e c n → seen epoch last parts (Decided e c (n + 1)) ≡ record p { waiting = drop 1 p.waiting }
marked-is epoch last parts stage e c n p view is =
    ap (λ (ws : List Marker). record { epoch = epoch; undecided = None; last = last; waiting = ws }) (ap (λ m. markers_for e c (drop m parts)) (next n) ∙ ap (markers_for e c) (sym (drop_next n parts)) ∙ sym (drop_one e c (drop n parts)))
    ∙ ap (λ s. record (seen epoch last parts s) { waiting = drop 1 (waiting_in s parts) }) (sym is)
    ∙ ap (λ (q : Producer). record q { waiting = drop 1 q.waiting }) view
  where
    next : (m : ℕ) → m + 1 ≡ suc m
    next m = omega arith
