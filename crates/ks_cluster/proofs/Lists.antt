-- Lists with one element in place of another.
use Rattle.std.proofs.Common.{◌≡◌, ◌≢◌, ℕ, zero, suc, ◌<◌, List, [], ◌∷◌, length, set, get_or, drop, refl, sym, ap, ◌∙◌, arith}
use Rattle.std.specs.Prelude.{replicate}

pub get_or-set_same : {A : Type 0} (xs : List A) (w : ℕ) (x d : A) → w < length xs → get_or (set xs w x) w d ≡ x
get_or-set_same [] w x d h = absurd (omega arith)
get_or-set_same (y ∷ ys) zero x d h = refl
get_or-set_same (y ∷ ys) (suc w) x d h = get_or-set_same ys w x d (omega arith)

pub get_or-set_other : {A : Type 0} (xs : List A) (w v : ℕ) (x d : A) → v ≢ w → get_or (set xs w x) v d ≡ get_or xs v d
get_or-set_other [] w v x d h = refl
get_or-set_other (y ∷ ys) zero zero x d h = absurd (h refl)
get_or-set_other (y ∷ ys) zero (suc v) x d h = refl
get_or-set_other (y ∷ ys) (suc w) zero x d h = refl
get_or-set_other (y ∷ ys) (suc w) (suc v) x d h = get_or-set_other ys w v x d (λ e. h (ap suc e))

-- below the length the default doesn't matter
pub get_or-within : {A : Type 0} (xs : List A) (w : ℕ) (d e : A) → w < length xs → get_or xs w d ≡ get_or xs w e
get_or-within [] w d e h = absurd (omega arith)
get_or-within (y ∷ ys) zero d e h = refl
get_or-within (y ∷ ys) (suc w) d e h = get_or-within ys w d e (omega arith)

pub get_or-replicate : {A : Type 0} (n w : ℕ) (x : A) → get_or (replicate n x) w x ≡ x
get_or-replicate zero w x = refl
get_or-replicate (suc n) zero x = refl
get_or-replicate (suc n) (suc w) x = get_or-replicate n w x

pub first_and_rest : {A : Type 0} (xs : List A) (d : A) → length xs ≢ 0 → xs ≡ get_or xs 0 d ∷ drop 1 xs
first_and_rest [] d h = absurd (h refl)
first_and_rest (x ∷ xs) d h = refl
