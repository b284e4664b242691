-- Bytes compared one after the other, as a loop does.
use Rattle.std.proofs.Common.{◌≡◌, ℕ, ◌<◌, Bool, false, List, [], ◌∷◌, length, refl, ap, arith}
use Rattle.std.specs.Prelude.{nat_lt}
use Rattle.std.specs.declared.cmp.Ordering.TheVariants.{Equal}
use Rattle.std.specs.Ordering.{nat_cmp, is_lt, ordering_then}
use Rattle.std.specs.Cmp.Lexicographic.{slice_cmp}
use Rattle.std.proofs.lemmas.Bool.Decides.{nat_tests}

abbrev pub below : List ℕ → List ℕ → Bool
below xs ys = is_lt (slice_cmp nat_cmp xs ys)

-- the rest decides where the first ones are equal
pub below_same : (x y : ℕ) (xs ys : List ℕ) → x ≡ y → below (x ∷ xs) (y ∷ ys) ≡ below xs ys
below_same x y xs ys e =
    let tied : nat_cmp x y ≡ Equal = grind (arith, nat_tests) in
    ap (λ o. is_lt (ordering_then o (slice_cmp nat_cmp xs ys))) tied

-- else they do
pub below_other : (x y : ℕ) (xs ys : List ℕ) → (x ≡ y → ⊥) → below (x ∷ xs) (y ∷ ys) ≡ nat_lt x y
below_other x y xs ys n = grind (arith, nat_tests)

pub none_below : (xs : List ℕ) → below xs [] ≡ false
none_below [] = refl
none_below (x ∷ xs) = refl

pub end_below : (xs ys : List ℕ) → length ys < 1 → below xs ys ≡ false
end_below xs [] h = none_below xs
end_below xs (y ∷ ys) h = absurd (omega (arith, h))
