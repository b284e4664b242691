-- The last touching entry, looked for from the end.
use Rattle.std.proofs.Common.{◌≡◌, ℕ, ◌+◌, ◌-◌, ◌≤◌, cond, List, [], ◌∷◌, ◌++◌, length, take, get_or, sym, ap, ◌∙◌, arith}
use Rattle.std.proofs.lemmas.List.{length-take-le, take_more}
use Rattle.ks_history.specs.declared.journal.Entry.{Entry}
use Rattle.ks_history.specs.Touched.{touches, touched}
use Rattle.ks_history.proofs.Touching.{touched_by_the_last}

pub touched_back : (w : ℕ) (xs : List Entry) (n m : ℕ) (x : Entry) → n ≡ m + 1 → n ≤ length xs → x ≡ get_or xs m x → touched w (take n xs) ≡ cond (touches w x) n (touched w (take m xs))
touched_back w xs n m x is within here =
    ap (λ k. touched w (take k xs)) is
    ∙ ap (touched w) (take_more xs m x (omega (arith, is, within)) ∙ ap (λ y. take m xs ++ y ∷ []) (sym here))
    ∙ touched_by_the_last w (take m xs) x
    ∙ ap (λ k. cond (touches w x) k (touched w (take m xs))) (omega (arith, length-take-le m xs (omega (arith, is, within)), is))
