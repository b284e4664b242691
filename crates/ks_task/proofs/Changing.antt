-- A loop that changes each element of a list.
use Rattle.std.proofs.Common.{◌≡◌, ℕ, zero, suc, ◌+◌, ◌<◌, List, [], ◌∷◌, ◌++◌, map, length, take, drop, set, get_or, ap, ap₂, ◌∙◌, refl, arith, add-one}

module _ {A : Type 0} (f : A → A) where
  step_at : (xs : List A) (i : ℕ) (d : A) → i < length xs → set (map f (take i xs) ++ drop i xs) i (f (get_or (map f (take i xs) ++ drop i xs) i d)) ≡ map f (take (suc i) xs) ++ drop (suc i) xs
  step_at [] i d lt = absurd (omega arith)
  step_at (x ∷ xs) zero d lt = refl
  step_at (x ∷ xs) (suc i) d lt = ap (λ l. f x ∷ l) (step_at xs i d (omega arith))

  pub one_more : (xs items : List A) (i : ℕ) (x y : A) → items ≡ map f (take i xs) ++ drop i xs → i < length xs → x ≡ get_or items i x → y ≡ f x → set items i y ≡ map f (take (i + 1) xs) ++ drop (i + 1) xs
  one_more xs items i x y e lt read made =
      let all = map f (take i xs) ++ drop i xs in
      rw (add-one i) (ap₂ (λ l v. set l i v) e (made ∙ ap f (read ∙ ap (λ l. get_or l i x) e)) ∙ step_at xs i x lt)
