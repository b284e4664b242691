-- What holds of each element of a list, by its place.
use Rattle.std.proofs.Common.{◌≡◌, ℕ, zero, suc, ◌<◌, List, [], ◌∷◌, ◌++◌, length, take, drop, get_or, sym, ap, ◌∙◌, subst, arith}
use mathlib.Core.Option.{some-injective, some-ne-none}
use lib.ListN.{get_elem?}
use Rattle.ks_growing.specs.Passes.{Each}

module _ {X : Type 0} where
  pub each_head : (P : ℕ → X → Type 0) (xs ys : List X) (x : X) → xs ≡ x ∷ ys → Each P xs → P 0 x
  each_head P xs ys x e h = h 0 x (ap (λ l. get_elem? l 0) e)

  pub each_tail : (P : ℕ → X → Type 0) (xs ys : List X) (x : X) → xs ≡ x ∷ ys → Each P xs → Each (λ k. P (suc k)) ys
  each_tail P xs ys x e h k y a = h (suc k) y (ap (λ l. get_elem? l (suc k)) e ∙ a)

  pub each_snoc : (P : ℕ → X → Type 0) (xs : List X) (x : X) → Each P xs → P (length xs) x → Each P (xs ++ x ∷ [])
  each_snoc P [] x h p zero y e = subst (P 0) (some-injective x y e) p
  each_snoc P [] x h p (suc k) y e = absurd (some-ne-none y (sym e))
  each_snoc P (a ∷ xs) x h p zero y e = h 0 y e
  each_snoc P (a ∷ xs) x h p (suc k) y e = each_snoc (λ k. P (suc k)) xs x (λ k y. h (suc k) y) p k y e

  pub each_cons : (P : ℕ → X → Type 0) (xs : List X) (x : X) → P 0 x → Each (λ k. P (suc k)) xs → Each P (x ∷ xs)
  each_cons P xs x p h zero y e = subst (P 0) (some-injective x y e) p
  each_cons P xs x p h (suc k) y e = h k y e

  -- a list with elements, as its first one and the rest
  pub first_rest : (xs : List X) (x : X) → 0 < length xs → x ≡ get_or xs 0 x → xs ≡ x ∷ (take 0 xs ++ drop 1 xs)
  first_rest [] x h e = absurd (omega arith)
  first_rest (y ∷ ys) x h e = ap (λ z. z ∷ ys) (sym e)
