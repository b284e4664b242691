-- The tasks of one more subtopology.
use Rattle.std.proofs.Common.{◌≡◌, ℕ, suc, List, [], ◌∷◌, ◌++◌, ap, ◌∙◌, append-nil}
use Rattle.std.proofs.lemmas.Grind.{flat_map-append}
use Rattle.std.specs.List.{flat_map}
use Rattle.ks_plan.specs.Layout.{up_to}

flat_push : {A B : Type 0} (f : A → List B) (xs : List A) (x : A) → flat_map f (xs ++ x ∷ []) ≡ flat_map f xs ++ f x
flat_push f xs x = flat_map-append f xs (x ∷ []) ∙ ap (λ l. flat_map f xs ++ l) (append-nil (f x))

pub one_more_sub : {B : Type 0} (f : ℕ → List B) (n : ℕ) → flat_map f (up_to (suc n)) ≡ flat_map f (up_to n) ++ f n
one_more_sub f n = flat_push f (up_to n) n
