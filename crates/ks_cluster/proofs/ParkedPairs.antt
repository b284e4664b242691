-- The parked pairs, with one more and without one.
use Rattle.std.proofs.Common.{◌≡◌, ℕ, Bool, true, false, cond, List, [], ◌∷◌, ◌++◌, refl, sym, ap, ◌∙◌, subst}
use Rattle.std.specs.Prelude.{◌==◌, ◌&&◌, ◌||◌}
use Rattle.std.proofs.lemmas.Bool.{and_parts, eqb-true}
use Rattle.ks_record.specs.declared.record.TaskId.{TaskId}
use Rattle.ks_record.specs.Parts.{same_task}
use Rattle.ks_history.proofs.Names.{same_task-is}
use Rattle.ks_cluster.specs.ParkedPairs.{is_parked_in, unparked_in}

pub either : (a b : Bool) → (a || b) ≡ cond b true a
either true true = refl
either true false = refl
either false true = refl
either false false = refl

or_assoc : (a b c : Bool) → (a || (b || c)) ≡ ((a || b) || c)
or_assoc true b c = refl
or_assoc false b c = refl

or_false : (a : Bool) → (a || false) ≡ a
or_false true = refl
or_false false = refl

pub is_parked-more : (i : ℕ) (t : TaskId) (pairs : List (ℕ × TaskId)) (j : ℕ) (u : TaskId) → is_parked_in i t (pairs ++ (j, u) ∷ []) ≡ (is_parked_in i t pairs || ((i == j) && same_task t u))
is_parked-more i t [] j u = or_false ((i == j) && same_task t u)
is_parked-more i t (pair ∷ pairs) j u = ap (λ b. ((i == pair.0) && same_task t pair.1) || b) (is_parked-more i t pairs j u) ∙ or_assoc ((i == pair.0) && same_task t pair.1) (is_parked_in i t pairs) ((i == j) && same_task t u)

-- two pairs that pass the test are one
same_pair : (i j : ℕ) (t u : TaskId) → ((i == j) && same_task t u) ≡ true → (i ≡ j) × (t ≡ u)
same_pair i j t u h =
    let both : ((i == j) ≡ true) × (same_task t u ≡ true) = and_parts (i == j) (same_task t u) h in
    (eqb-true i j both.0, same_task-is t u both.1)

nowhere : (j : ℕ) (u : TaskId) (pairs : List (ℕ × TaskId)) → is_parked_in j u (unparked_in j u pairs) ≡ false
nowhere j u [] = refl
nowhere j u (pair ∷ pairs) = by_test ((j == pair.0) && same_task u pair.1) refl (nowhere j u pairs)
  where
    by_test : (b : Bool) → ((j == pair.0) && same_task u pair.1) ≡ b → is_parked_in j u (unparked_in j u pairs) ≡ false → is_parked_in j u (cond b (unparked_in j u pairs) (pair ∷ unparked_in j u pairs)) ≡ false
    by_test true is h = h
    by_test false is h = ap (λ b. b || is_parked_in j u (unparked_in j u pairs)) is ∙ h

elsewhere : (i j : ℕ) (t u : TaskId) (pairs : List (ℕ × TaskId)) → ((i == j) && same_task t u) ≡ false → is_parked_in i t (unparked_in j u pairs) ≡ is_parked_in i t pairs
elsewhere i j t u [] apart = refl
elsewhere i j t u (pair ∷ pairs) apart = by_test ((j == pair.0) && same_task u pair.1) refl (elsewhere i j t u pairs apart)
  where
    by_test : (b : Bool) → ((j == pair.0) && same_task u pair.1) ≡ b → is_parked_in i t (unparked_in j u pairs) ≡ is_parked_in i t pairs
        → is_parked_in i t (cond b (unparked_in j u pairs) (pair ∷ unparked_in j u pairs)) ≡ (((i == pair.0) && same_task t pair.1) || is_parked_in i t pairs)
    by_test true is h =
        let one : (j ≡ pair.0) × (u ≡ pair.1) = same_pair j pair.0 u pair.1 is in
        h ∙ sym (ap (λ b. b || is_parked_in i t pairs) (ap (λ n. (i == n) && same_task t pair.1) (sym one.0) ∙ ap (λ v. (i == j) && same_task t v) (sym one.1) ∙ apart))
    by_test false is h = ap (λ b. ((i == pair.0) && same_task t pair.1) || b) h

pub unparked : (i j : ℕ) (t u : TaskId) (pairs : List (ℕ × TaskId)) → is_parked_in i t (unparked_in j u pairs) ≡ cond ((i == j) && same_task t u) false (is_parked_in i t pairs)
unparked i j t u pairs = by_test ((i == j) && same_task t u) refl
  where
    by_test : (b : Bool) → ((i == j) && same_task t u) ≡ b → is_parked_in i t (unparked_in j u pairs) ≡ cond b false (is_parked_in i t pairs)
    by_test true is =
        let one : (i ≡ j) × (t ≡ u) = same_pair i j t u is in
        subst (λ n. is_parked_in i t (unparked_in n u pairs) ≡ false) one.0 (subst (λ v. is_parked_in i t (unparked_in i v pairs) ≡ false) one.1 (nowhere i t pairs))
    by_test false is = elsewhere i j t u pairs is

pub absent : (i j : ℕ) (t u : TaskId) (pairs : List (ℕ × TaskId)) → is_parked_in j u pairs ≡ false → is_parked_in i t pairs ≡ cond ((i == j) && same_task t u) false (is_parked_in i t pairs)
absent i j t u pairs none = by_test ((i == j) && same_task t u) refl
  where
    by_test : (b : Bool) → ((i == j) && same_task t u) ≡ b → is_parked_in i t pairs ≡ cond b false (is_parked_in i t pairs)
    by_test true is =
        let one : (i ≡ j) × (t ≡ u) = same_pair i j t u is in
        ap (λ n. is_parked_in n t pairs) one.0 ∙ ap (λ v. is_parked_in j v pairs) one.1 ∙ none
    by_test false is = refl
