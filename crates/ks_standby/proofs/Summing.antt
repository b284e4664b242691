-- The sum of positions, and its end at the greatest u64.
use Rattle.std.proofs.Common.{◌≡◌, ℕ, ◌+◌, ◌≤◌, ◌<◌, List, [], ◌∷◌, length, arith}
use Rattle.std.specs.Prelude.{◌^◌, ◌-◌, min}
use Rattle.ks_cache.specs.declared.changelogs.Changelog.{Changelog}
use Rattle.ks_standby.specs.Replicas.{sum_of}

pub summed : (sum : ℕ) (rest : List Changelog) (all : ℕ) → sum ≤ 2 ^ 64 - 1 → length rest < 1 → min (sum + sum_of rest) (2 ^ 64 - 1) ≡ all → sum ≡ all
summed sum [] all most none e = omega (arith, most, e)
summed sum (x ∷ xs) all most none e = absurd (omega (arith, none))
