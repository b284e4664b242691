-- What holds of each of a list.
use Rattle.std.proofs.Common.{◌≡◌, Bool, true, false, cond, List, [], ◌∷◌, ◌++◌, refl}
use Rattle.std.specs.List.{filter}

abbrev pub AllOf : {A : Type 0} → (A → Type 0) → List A → Type 0
AllOf P [] = Unit {0}
AllOf P (x ∷ xs) = P x × AllOf P xs

pub all_map : {A : Type 0} (P Q : A → Type 0) → ((x : A) → P x → Q x) → (xs : List A) → AllOf P xs → AllOf Q xs
all_map P Q f [] h = tt
all_map P Q f (x ∷ xs) h = (f x h.0, all_map P Q f xs h.1)

pub all_left : {A : Type 0} (P : A → Type 0) (xs ys : List A) → AllOf P (xs ++ ys) → AllOf P xs
all_left P [] ys h = tt
all_left P (x ∷ xs) ys h = (h.0, all_left P xs ys h.1)

pub all_right : {A : Type 0} (P : A → Type 0) (xs ys : List A) → AllOf P (xs ++ ys) → AllOf P ys
all_right P [] ys h = h
all_right P (x ∷ xs) ys h = all_right P xs ys h.1

pub all_append : {A : Type 0} (P : A → Type 0) (xs ys : List A) → AllOf P xs → AllOf P ys → AllOf P (xs ++ ys)
all_append P [] ys g h = h
all_append P (x ∷ xs) ys g h = (g.0, all_append P xs ys g.1 h)

pub all_both : {A : Type 0} (P Q : A → Type 0) (xs : List A) → AllOf P xs → AllOf Q xs → AllOf (λ x. P x × Q x) xs
all_both P Q [] g h = tt
all_both P Q (x ∷ xs) g h = ((g.0, h.0), all_both P Q xs g.1 h.1)

pub all_filter : {A : Type 0} (P : A → Type 0) (f : A → Bool) (xs : List A) → AllOf P xs → AllOf (λ x. P x × (f x ≡ true)) (filter f xs)
all_filter P f [] h = tt
all_filter P f (x ∷ xs) h = by (f x) refl (all_filter P f xs h.1)
  where
    by : (b : Bool) → f x ≡ b → AllOf (λ x. P x × (f x ≡ true)) (filter f xs) → AllOf (λ x. P x × (f x ≡ true)) (cond b (x ∷ filter f xs) (filter f xs))
    by true e more = ((h.0, e), more)
    by false e more = more

pub all_cond : {A : Type 0} (P : A → Type 0) (b : Bool) (xs ys : List A) → AllOf P xs → AllOf P ys → AllOf P (cond b xs ys)
all_cond P true xs ys g h = g
all_cond P false xs ys g h = h
