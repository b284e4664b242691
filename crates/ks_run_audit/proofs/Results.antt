-- Clauses of a result in a result, and of a list without items.
use Rattle.std.proofs.Common.{◌≡◌, true, List, [], ◌∷◌, length, refl, arith}
use Rattle.std.specs.Prelude.{◌==◌, Result, Ok, Err, IfOk, IfErr, OnOk}
use Rattle.std.proofs.lemmas.Bool.{eqb-true}

pub each_ok : {T E F : Type 0} (r : Result (Result T E) F) (P Q : T → Type 0) → IfOk r (λ x. IfOk x P) → ((t : T) → P t → Q t) → IfOk r (λ x. IfOk x Q)
each_ok (Ok (Ok t)) P Q h f = f t h
each_ok (Ok (Err e)) P Q h f = tt
each_ok (Err e) P Q h f = tt

pub on_each : {T E F : Type 0} (r : Result (Result T E) F) (P Q : Type 0) → IfOk r (λ x. OnOk x P) → (P → Q) → IfOk r (λ x. OnOk x Q)
on_each (Ok (Ok t)) P Q h f = f h
on_each (Ok (Err e)) P Q h f = tt
on_each (Err e) P Q h f = tt

pub each_err : {T E F : Type 0} (r : Result (Result T E) F) (P Q : E → Type 0) → IfOk r (λ x. IfErr x P) → ((e : E) → P e → Q e) → IfOk r (λ x. IfErr x Q)
each_err (Ok (Ok t)) P Q h f = tt
each_err (Ok (Err e)) P Q h f = f e h
each_err (Err e) P Q h f = tt

pub always_ok : {T E : Type 0} (r : Result T E) (P : Type 0) → P → OnOk r P
always_ok (Ok t) P h = h
always_ok (Err e) P h = tt

pub no_items : {A : Type 0} (l : List A) → (length l == 0) ≡ true → l ≡ []
no_items [] h = refl
no_items (x ∷ xs) h = absurd (omega (arith, eqb-true (length (x ∷ xs)) 0 h))
