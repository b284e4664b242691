-- No subtopology has an input twice.
use Rattle.std.proofs.Common.{◌≡◌, ℕ, suc, ◌+◌, ◌≤◌, ◌<◌, Bool, true, false, cond, ◌||◌, List, [], ◌∷◌, map, refl, ap, subst, ◌∙◌, arith, nat_eq}
use Rattle.std.specs.List.{filter, slice_index}
use Rattle.std.specs.List.Sorted.{IsStrictlyIncreasing}
use Rattle.std.proofs.lemmas.Bool.{ne_eqb}
use Rattle.ks_plan.specs.declared.node.Topic.{Topic}
use Rattle.ks_plan.specs.Layout.{number_of, drain_order, reads}
use Rattle.ks_plan.specs.Infos.{drain_numbers, input_numbers}
use Rattle.ks_history.specs.Machine.{has_topic}
use Rattle.ks_law_topology.proofs.Order.{drain_rises}
use Rattle.ks_law_restore.specs.Views.{are_topics_once}
use Rattle.ks_law_settled.specs.Routes.{InputsAreOnce}

-- numbers that rise, from one on
abbrev Up : ℕ → List ℕ → Type 0
Up lo [] = Unit {0}
Up lo (x ∷ xs) = (lo ≤ x) × Up (suc x) xs

up_from : (lo : ℕ) (xs : List ℕ) → ((x : ℕ) (rest : List ℕ) → xs ≡ x ∷ rest → lo ≤ x) → IsStrictlyIncreasing xs → Up lo xs
up_from lo [] first h = tt
up_from lo (x ∷ []) first h = (first x [] refl, tt)
up_from lo (x ∷ y ∷ xs) first h = (first x (y ∷ xs) refl, up_from (suc x) (y ∷ xs) next (λ k lt. later k (h (suc k) (omega (arith, lt)))))
  where
    less : x < y
    less = h 0 (omega arith)

    later : (k : ℕ) → slice_index (y ∷ xs) k < slice_index (x ∷ y ∷ xs) (suc k + 1) → slice_index (y ∷ xs) k < slice_index (y ∷ xs) (k + 1)
    later k l = let e : suc k + 1 ≡ suc (k + 1) = omega arith in subst (λ j. slice_index (y ∷ xs) k < slice_index (x ∷ y ∷ xs) j) e l

    next : (z : ℕ) (rest : List ℕ) → y ∷ xs ≡ z ∷ rest → suc x ≤ z
    next z rest e =
        let same : y ≡ z = cc in
        omega (arith, less, same)

lower : (lo hi : ℕ) (xs : List ℕ) → lo ≤ hi → Up hi xs → Up lo xs
lower lo hi [] h u = tt
lower lo hi (x ∷ xs) h u = (omega (arith, h, u.0), u.1)

up_some : (number : Topic → ℕ) (f : Topic → Bool) (lo : ℕ) (xs : List Topic) → Up lo (map number xs) → Up lo (map number (filter f xs))
up_some number f lo [] u = tt
up_some number f lo (x ∷ xs) u = by (f x) (up_some number f (suc (number x)) xs u.1)
  where
    by : (b : Bool) → Up (suc (number x)) (map number (filter f xs)) → Up lo (map number (cond b (x ∷ filter f xs) (filter f xs)))
    by true more = (u.0, more)
    by false more = lower lo (suc (number x)) (map number (filter f xs)) (omega (arith, u.0)) more

none_below : (n lo : ℕ) (xs : List ℕ) → n < lo → Up lo xs → has_topic n xs ≡ false
none_below n lo [] h u = refl
none_below n lo (x ∷ xs) h u =
    ap (λ b. b || has_topic n xs) (ne_eqb n x (λ (e : n ≡ x). omega (arith, e, h, u.0))) ∙ none_below n (suc x) xs (omega (arith, h, u.0)) u.1

up_once : (lo : ℕ) (xs : List ℕ) → Up lo xs → are_topics_once xs ≡ true
up_once lo [] u = refl
up_once lo (x ∷ xs) u = ap (λ b. cond b false (are_topics_once xs)) (none_below x (suc x) xs (omega arith) u.1) ∙ up_once (suc x) xs u.1

pub inputs_once : InputsAreOnce
inputs_once p sub = up_once 0 (input_numbers p sub) (up_some (number_of p) (λ t. nat_eq (reads p t) sub) 0 (drain_order p) (up_from 0 (drain_numbers p) (λ x rest e. omega arith) (drain_rises p)))
