-- Lists: those that begin others, sums over them, and the longer of two.
use Rattle.std.proofs.Common.{◌≡◌, ◌≢◌, ℕ, zero, suc, ◌+◌, ◌≤◌, List, [], ◌∷◌, ◌++◌, Bool, ◌⊎◌, ⊎_elim, inl, inr, length, filter, set, refl, ap, sym, ◌∙◌, arith, append_assoc, length-append}
use Rattle.std.proofs.lemmas.List.{append-nil, append_cancel_left}
use Rattle.std.proofs.lemmas.List.Elements.{filter-append}
use mathlib.Core.Option.{some, some-injective, some-ne-none}
use mathlib.Core.List.{IsPrefix}
use lib.ListN.{get_elem?}
use Rattle.ks_growing.specs.Rule.{total}
use Rattle.ks_growing.specs.Steps.{longer}

module _ {A : Type 0} where
  nil_left : (xs ys : List A) → xs ++ ys ≡ [] → xs ≡ []
  nil_left [] ys e = refl
  nil_left (x ∷ xs) ys e = absurd cc

  pub prefix_self : (xs : List A) → IsPrefix xs xs
  prefix_self xs = ([], append-nil xs)

  pub prefix_trans : (xs ys zs : List A) → IsPrefix xs ys → IsPrefix ys zs → IsPrefix xs zs
  prefix_trans xs ys zs p q = (p.0 ++ q.0, sym (append_assoc xs p.0 q.0) ∙ ap (λ w. w ++ q.0) p.1 ∙ q.1)

  pub prefix_length : (xs ys : List A) → IsPrefix xs ys → length xs ≤ length ys
  prefix_length xs ys p = let e = ap length p.1 in omega (arith, length-append xs p.0)

  pub prefix_tail : (x y : A) (xs ys : List A) → IsPrefix (x ∷ xs) (y ∷ ys) → (x ≡ y) × IsPrefix xs ys
  prefix_tail x y xs ys p = let e : x ∷ (xs ++ p.0) ≡ y ∷ ys = p.1 in let t : xs ++ p.0 ≡ ys = cc in let h : x ≡ y = cc in (h, (p.0, t))

  -- of two beginnings of one list the shorter begins the longer
  pub prefix_of_longer : (xs ys zs : List A) → IsPrefix xs zs → IsPrefix ys zs → length xs ≤ length ys → IsPrefix xs ys
  prefix_of_longer [] ys zs p q h = (ys, refl)
  prefix_of_longer (x ∷ xs) [] zs p q h = absurd (omega arith)
  prefix_of_longer (x ∷ xs) (y ∷ ys) [] p q h = absurd (let e = ap length p.1 in omega (arith, length-append (x ∷ xs) p.0))
  prefix_of_longer (x ∷ xs) (y ∷ ys) (z ∷ zs) p q h =
      let a = prefix_tail x z xs zs p in
      let b = prefix_tail y z ys zs q in
      let r = prefix_of_longer xs ys zs a.1 b.1 (omega arith) in
      (r.0, λ i. (a.0 ∙ sym b.0) i ∷ r.1 i)

  module _ (f : A → ℕ) where
    pub total_set : (xs : List A) (i : ℕ) (v w : A) → get_elem? xs i ≡ some v → total f (set xs i w) + f v ≡ total f xs + f w
    total_set [] i v w e = absurd (some-ne-none v (sym e))
    total_set (x ∷ xs) zero v w e = let is : f x ≡ f v = ap f (some-injective x v e) in omega arith
    total_set (x ∷ xs) (suc i) v w e = let t = total_set xs i v w e in omega arith

    pub total_same : (xs : List A) (i : ℕ) (v w : A) → get_elem? xs i ≡ some v → f w ≡ f v → total f (set xs i w) ≡ total f xs
    total_same xs i v w e same = let t = total_set xs i v w e in omega arith

    pub total_snoc : (xs : List A) (w : A) → total f (xs ++ w ∷ []) ≡ total f xs + f w
    total_snoc [] w = omega arith
    total_snoc (x ∷ xs) w = let t = total_snoc xs w in omega arith

    pub total_at : (xs : List A) (i : ℕ) (v : A) → get_elem? xs i ≡ some v → f v ≤ total f xs
    total_at [] i v e = absurd (some-ne-none v (sym e))
    total_at (x ∷ xs) zero v e = let is : f x ≡ f v = ap f (some-injective x v e) in omega arith
    total_at (x ∷ xs) (suc i) v e = let t = total_at xs i v e in omega arith

    pub total_two : (xs : List A) (i j : ℕ) (v w : A) → get_elem? xs i ≡ some v → get_elem? xs j ≡ some w → j ≢ i → f v + f w ≤ total f xs
    total_two [] i j v w e h ne = absurd (some-ne-none v (sym e))
    total_two (x ∷ xs) zero zero v w e h ne = absurd (ne refl)
    total_two (x ∷ xs) zero (suc j) v w e h ne = let is : f x ≡ f v = ap f (some-injective x v e) in let t = total_at xs j w h in omega arith
    total_two (x ∷ xs) (suc i) zero v w e h ne = let is : f x ≡ f w = ap f (some-injective x w h) in let t = total_at xs i v e in omega arith
    total_two (x ∷ xs) (suc i) (suc j) v w e h ne = let t = total_two xs i j v w e h (λ k. ne (ap suc k)) in omega arith

    pub total_none : (xs : List A) → ((j : ℕ) (w : A) → get_elem? xs j ≡ some w → f w ≡ 0) → total f xs ≡ 0
    total_none [] h = refl
    total_none (x ∷ xs) h = let a = h 0 x refl in let t = total_none xs (λ j w e. h (suc j) w e) in omega arith

    -- where the others count nothing, one counts for all
    pub total_one : (xs : List A) (i : ℕ) (v : A) → get_elem? xs i ≡ some v → ((j : ℕ) (w : A) → get_elem? xs j ≡ some w → j ≢ i → f w ≡ 0) → total f xs ≡ f v
    total_one [] i v e h = absurd (some-ne-none v (sym e))
    total_one (x ∷ xs) zero v e h =
        let is : f x ≡ f v = ap f (some-injective x v e) in
        let t = total_none xs (λ j w a. h (suc j) w a (λ z. absurd (omega arith))) in
        omega arith
    total_one (x ∷ xs) (suc i) v e h =
        let a = h 0 x refl (λ z. absurd (omega arith)) in
        let t = total_one xs i v e (λ j w b ne. h (suc j) w b (λ z. ne (omega arith))) in
        omega arith

  pub longer_within : (xs ys zs : List A) → IsPrefix xs zs → IsPrefix ys zs → IsPrefix (longer xs ys) zs
  longer_within [] ys zs p q = q
  longer_within (x ∷ xs) [] zs p q = p
  longer_within (x ∷ xs) (y ∷ ys) [] p q = absurd (cc (p.1))
  longer_within (x ∷ xs) (y ∷ ys) (z ∷ zs) p q =
      let a = prefix_tail x z xs zs p in
      let b = prefix_tail y z ys zs q in
      let r = longer_within xs ys zs a.1 b.1 in
      (r.0, λ i. a.0 i ∷ r.1 i)

  pub longer_left : (xs ys zs : List A) → IsPrefix xs zs → IsPrefix ys zs → IsPrefix xs (longer xs ys)
  longer_left [] ys zs p q = (ys, refl)
  longer_left (x ∷ xs) [] zs p q = prefix_self (x ∷ xs)
  longer_left (x ∷ xs) (y ∷ ys) [] p q = absurd (cc (p.1))
  longer_left (x ∷ xs) (y ∷ ys) (z ∷ zs) p q =
      let a = prefix_tail x z xs zs p in
      let b = prefix_tail y z ys zs q in
      let r = longer_left xs ys zs a.1 b.1 in
      (r.0, λ i. x ∷ r.1 i)

  pub longer_right : (xs ys zs : List A) → IsPrefix xs zs → IsPrefix ys zs → IsPrefix ys (longer xs ys)
  longer_right [] ys zs p q = prefix_self ys
  longer_right (x ∷ xs) [] zs p q = (x ∷ xs, refl)
  longer_right (x ∷ xs) (y ∷ ys) [] p q = absurd (cc (p.1))
  longer_right (x ∷ xs) (y ∷ ys) (z ∷ zs) p q =
      let a = prefix_tail x z xs zs p in
      let b = prefix_tail y z ys zs q in
      let r = longer_right xs ys zs a.1 b.1 in
      (r.0, λ i. (b.0 ∙ sym a.0) i ∷ r.1 i)

  pub longer_either : (xs ys zs : List A) → IsPrefix xs zs → IsPrefix ys zs → (longer xs ys ≡ xs) ⊎ (longer xs ys ≡ ys)
  longer_either [] ys zs p q = inr refl
  longer_either (x ∷ xs) [] zs p q = inl refl
  longer_either (x ∷ xs) (y ∷ ys) [] p q = absurd (cc (p.1))
  longer_either (x ∷ xs) (y ∷ ys) (z ∷ zs) p q =
      let a = prefix_tail x z xs zs p in
      let b = prefix_tail y z ys zs q in
      ⊎_elim (λ (e : longer xs ys ≡ xs). inl (ap (λ w. x ∷ w) e)) (λ (e : longer xs ys ≡ ys). inr (λ i. (a.0 ∙ sym b.0) i ∷ e i)) (longer_either xs ys zs a.1 b.1)

  -- what lies between two lists with the same reserved entries has them too
  pub filter_between : (p : A → Bool) (xs ys zs : List A) → IsPrefix xs ys → IsPrefix ys zs → filter p zs ≡ filter p xs → filter p ys ≡ filter p xs
  filter_between p xs ys zs a b e =
      let m : xs ++ (a.0 ++ b.0) ≡ zs = sym (append_assoc xs a.0 b.0) ∙ ap (λ w. w ++ b.0) a.1 ∙ b.1 in
      let f : filter p xs ++ filter p (a.0 ++ b.0) ≡ filter p xs ++ [] = sym (filter-append p xs (a.0 ++ b.0)) ∙ ap (filter p) m ∙ e ∙ sym (append-nil (filter p xs)) in
      let none : filter p a.0 ++ filter p b.0 ≡ [] = sym (filter-append p a.0 b.0) ∙ append_cancel_left (filter p xs) (filter p (a.0 ++ b.0)) [] f in
      ap (filter p) (sym a.1) ∙ filter-append p xs a.0 ∙ ap (λ w. filter p xs ++ w) (nil_left (filter p a.0) (filter p b.0) none) ∙ append-nil (filter p xs)
