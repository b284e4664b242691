-- Lists by number, and the numbers below another one.
use Rattle.std.proofs.Common.{◌≡◌, ℕ, zero, suc, ◌<◌, ◌⊎◌, inl, inr, Bool, true, false, cond, List, [], ◌∷◌, ◌++◌, length, map, Some, refl, sym, ap, ◌∙◌, arith, nat_eq, length-append, ⊎_elim}
use Rattle.std.specs.Prelude.{slice_get}
use Rattle.std.proofs.lemmas.Bool.{true≢false, eqb-false}
use Rattle.std.proofs.lemmas.Bool.Decides.{Decides-eqb}
use Rattle.ks_plan.specs.Layout.{up_to, first_in}

pub one_longer : (xs : List ℕ) (x : ℕ) → length (xs ++ x ∷ []) ≡ suc (length xs)
one_longer xs x = omega (arith, length-append xs (x ∷ []))

pub length_up_to : (n : ℕ) → length (up_to n) ≡ n
length_up_to zero = refl
length_up_to (suc n) = omega (arith, one_longer (up_to n) n, length_up_to n)

pub get_first : {A : Type 0} (xs ys : List A) (i : ℕ) → i < length xs → slice_get (xs ++ ys) i ≡ slice_get xs i
get_first [] ys i lt = absurd (omega arith)
get_first (x ∷ xs) ys zero lt = refl
get_first (x ∷ xs) ys (suc i) lt = get_first xs ys i (omega arith)

pub get_last : {A : Type 0} (xs : List A) (x : A) → slice_get (xs ++ x ∷ []) (length xs) ≡ Some x
get_last [] x = refl
get_last (y ∷ xs) x = get_last xs x

pub get_up_to : (n i : ℕ) → i < n → slice_get (up_to n) i ≡ Some i
get_up_to zero i lt = absurd (omega arith)
get_up_to (suc n) i lt = ⊎_elim
    (λ (e : i ≡ n). ap (slice_get (up_to n ++ n ∷ [])) (e ∙ sym (length_up_to n)) ∙ get_last (up_to n) n ∙ ap (λ (k : ℕ). Some k) (sym e))
    (λ (l : i < n). get_first (up_to n) (n ∷ []) i (omega (arith, l, length_up_to n)) ∙ get_up_to n i l)
    (split i n lt)
  where
    split : (i n : ℕ) → i < suc n → (i ≡ n) ⊎ (i < n)
    split i n lt = elim (nat_eq i n) as (λ b. nat_eq i n ≡ b → (i ≡ n) ⊎ (i < n)) [
      | true ↦ λ e. inl ((Decides-eqb i n).0 e)
      | false ↦ λ e. inr (less e)
    ] refl
      where
        less : nat_eq i n ≡ false → i < n
        less e = let ne = eqb-false i n e in omega arith

pub get_map : {A B : Type 0} (f : A → B) (xs : List A) (i : ℕ) (x : A) → slice_get xs i ≡ Some x → slice_get (map f xs) i ≡ Some (f x)
get_map f [] i x e = absurd cc
get_map f (y ∷ xs) zero x e = let s : y ≡ x = cc in ap (λ v. Some (f v)) s
get_map f (y ∷ xs) (suc i) x e = get_map f xs i x e

-- the first with a number, where one has it
pub first_has : (sub : ℕ) (ss : List ℕ) (m : ℕ) → slice_get ss m ≡ Some sub → slice_get ss (first_in sub ss) ≡ Some sub
first_has sub [] m e = absurd cc
first_has sub (s ∷ ss) m e = by (nat_eq s sub) refl m e (λ i g. first_has sub ss i g)
  where
    by : (b : Bool) → nat_eq s sub ≡ b → (m : ℕ) → slice_get (s ∷ ss) m ≡ Some sub → ((i : ℕ) → slice_get ss i ≡ Some sub → slice_get ss (first_in sub ss) ≡ Some sub) → slice_get (s ∷ ss) (cond b 0 (suc (first_in sub ss))) ≡ Some sub
    by true is m e f = ap (λ (v : ℕ). Some v) ((Decides-eqb s sub).0 is)
    by false is zero e f = let g : s ≡ sub = cc in absurd (true≢false (sym ((Decides-eqb s sub).1 g) ∙ is))
    by false is (suc i) e f = f i e
