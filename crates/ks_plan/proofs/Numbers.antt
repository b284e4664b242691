-- Nodes of a plan by number.
use Rattle.std.proofs.Common.{◌≡◌, arith, ℕ, suc, ◌+◌, List, [], ◌∷◌, Some, refl, subst}
use Rattle.std.specs.Prelude.{slice_get}
use Rattle.ks_plan.specs.Plan.{Plan, Kind}

-- each of these nodes stands at its number
abbrev pub AtNode : Plan → ℕ → List Kind → Type 0
AtNode p n [] = Unit {0}
AtNode p n (k ∷ ks) = (slice_get p.kinds n ≡ Some k) × AtNode p (suc n) ks

at_nodes : (p : Plan) (n : ℕ) (ks : List Kind) → ((i : ℕ) (k : Kind) → slice_get ks i ≡ Some k → slice_get p.kinds (n + i) ≡ Some k) → AtNode p n ks
at_nodes p n [] h = tt
at_nodes p n (k ∷ ks) h =
    let z : n + 0 ≡ n = omega arith in
    (subst (λ j. slice_get p.kinds j ≡ Some k) z (h 0 k refl), at_nodes p (suc n) ks (λ i c e. let y : n + suc i ≡ suc n + i = omega arith in subst (λ j. slice_get p.kinds j ≡ Some c) y (h (suc i) c e)))

pub all_nodes : (p : Plan) → AtNode p 0 p.kinds
all_nodes p = at_nodes p 0 p.kinds (λ i k e. let z : i ≡ 0 + i = omega arith in subst (λ j. slice_get p.kinds j ≡ Some k) z e)
