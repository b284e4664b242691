-- How far a longer journal touches a worker's transaction.
use Rattle.std.proofs.Common.{◌≡◌, ℕ, ◌+◌, Bool, true, false, cond, List, [], ◌∷◌, ◌++◌, length, refl, ap, ◌∙◌, arith}
use Rattle.ks_history.specs.declared.journal.Entry.{Entry}
use Rattle.ks_history.specs.Touched.{touches, touched_from, touched, untouched, TouchedByTheLast, UntouchedStays}

touched-append : (w n last : ℕ) (xs ys : List Entry) → touched_from w n last (xs ++ ys) ≡ touched_from w (n + length xs) (touched_from w n last xs) ys
touched-append w n last [] ys = ap (λ k. touched_from w k last ys) (omega arith)
touched-append w n last (x ∷ xs) ys =
    let next : ℕ = cond (touches w x) (n + 1) last in
    touched-append w (n + 1) next xs ys ∙ ap (λ k. touched_from w k (touched_from w (n + 1) next xs) ys) (omega arith)

pub touched_by_the_last : TouchedByTheLast
touched_by_the_last w journal entry = touched-append w 0 0 journal (entry ∷ []) ∙ ap (λ k. cond (touches w entry) k (touched w journal)) (omega arith)

untouched_from : (w n last : ℕ) (ys : List Entry) → untouched w ys ≡ true → touched_from w n last ys ≡ last
untouched_from w n last [] h = refl
untouched_from w n last (y ∷ ys) h = by (touches w y) h (λ g. untouched_from w (n + 1) last ys g)
  where
    by : (b : Bool) → cond b false (untouched w ys) ≡ true → (untouched w ys ≡ true → touched_from w (n + 1) last ys ≡ last) → touched_from w (n + 1) (cond b (n + 1) last) ys ≡ last
    by true e more = absurd cc
    by false e more = more e

pub untouched_stays : UntouchedStays
untouched_stays w journal more h = touched-append w 0 0 journal more ∙ untouched_from w (0 + length journal) (touched w journal) more h
