-- The sum of what isn't committed, and its end at the greatest u64.
use Rattle.std.proofs.Common.{◌≡◌, ℕ, ◌+◌, ◌≤◌, ◌<◌, List, [], ◌∷◌, length, arith}
use Rattle.std.specs.Prelude.{◌^◌, ◌-◌, min}
use Rattle.ks_task.specs.declared.inputs.Input.{Input}
use Rattle.ks_task.specs.Views.{uncommitted_in}

pub summed : (sum : ℕ) (rest : List Input) (all : ℕ) → sum ≤ 2 ^ 64 - 1 → length rest < 1 → min (sum + uncommitted_in rest) (2 ^ 64 - 1) ≡ all → sum ≡ all
summed sum [] all most none e = omega (arith, most, e)
summed sum (x ∷ xs) all most none e = absurd (omega (arith, none))
