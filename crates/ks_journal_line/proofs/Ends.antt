-- A line and its end.
use Rattle.std.proofs.Common.{◌≡◌, ℕ, ◌-◌, List, [], ◌∷◌, ◌++◌, length, ap, ◌∙◌, arith}
use Rattle.std.specs.Prelude.{take}
use Rattle.std.proofs.Math.Seq.{take-append_seam}
use lib.ListN.{length-append}

-- all but the last of a list that has one item behind another list
but_last : (xs : List ℕ) (b : ℕ) → take (length (xs ++ b ∷ []) - 1) (xs ++ b ∷ []) ≡ xs
but_last xs b = ap (λ n. take n (xs ++ b ∷ [])) (one_less xs b) ∙ take-append_seam xs (b ∷ [])
  where
    one_less : (ys : List ℕ) (c : ℕ) → length (ys ++ c ∷ []) - 1 ≡ length ys
    one_less ys c = omega (arith, length-append ys (c ∷ []))

-- what is left of a text and one more byte when the last one is taken off
pub without_end : (old new xs : List ℕ) (b : ℕ) → old ≡ xs ++ b ∷ [] → new ≡ take (length old - 1) old → new ≡ xs
without_end old new xs b is rest = rest ∙ ap (λ l. take (length l - 1) l) is ∙ but_last xs b
