-- What holds of each member of a list.
use Rattle.std.proofs.Common.{◌≡◌, Bool, true, false, cond, List, [], ◌∷◌, ◌++◌, map, refl}
use Rattle.std.specs.List.{filter}

pub Each : {A : Type 0} → (A → Type 0) → List A → Type 0
Each P [] = Unit {0}
Each P (x ∷ xs) = P x × Each P xs

module _ {A : Type 0} (P : A → Type 0) where
  pub each_nothing : Each P []
  unfolding Each
  each_nothing = tt

  pub each_first : (x : A) (xs : List A) → P x → Each P xs → Each P (x ∷ xs)
  unfolding Each
  each_first x xs h e = (h, e)

  pub each_parts : (x : A) (xs : List A) → Each P (x ∷ xs) → P x × Each P xs
  unfolding Each
  each_parts x xs e = e

  pub Each-append : (xs ys : List A) → Each P xs → Each P ys → Each P (xs ++ ys)
  Each-append [] ys a b = b
  Each-append (x ∷ xs) ys a b = let p = each_parts x xs a in each_first x (xs ++ ys) p.0 (Each-append xs ys p.1 b)

  pub Each-cond : (b : Bool) (xs ys : List A) → Each P xs → Each P ys → Each P (cond b xs ys)
  Each-cond true xs ys p q = p
  Each-cond false xs ys p q = q

  pub Each-filter : (f : A → Bool) → ((x : A) → f x ≡ true → P x) → (xs : List A) → Each P (filter f xs)
  Each-filter f h [] = each_nothing
  Each-filter f h (x ∷ xs) = elim (f x) as (λ b. f x ≡ b → Each P (cond b (x ∷ filter f xs) (filter f xs))) [
    | true ↦ λ e. each_first x (filter f xs) (h x e) (Each-filter f h xs)
    | false ↦ λ e. Each-filter f h xs
  ] refl

pub Each-map : {A B : Type 0} (P : B → Type 0) (f : A → B) (xs : List A) → Each (λ x. P (f x)) xs → Each P (map f xs)
Each-map P f [] e = each_nothing P
Each-map P f (x ∷ xs) e = let p = each_parts (λ x. P (f x)) x xs e in each_first P (f x) (map f xs) p.0 (Each-map P f xs p.1)
