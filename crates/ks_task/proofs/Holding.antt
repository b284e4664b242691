-- Stores keep bytes.
use Rattle.std.proofs.Common.{◌<◌, arith, length, ◌==◌, true, false, List, [], ◌∷◌}
use Rattle.std.specs.Prelude.{if◌then◌else◌}
use Rattle.ks_def_runs.specs.FinMap as fin
use Rattle.ks_def_runs.specs.Pairs.{ArePairs}
use Rattle.ks_law_step.specs.Whole.{AreStores}
use Rattle.ks_cache.specs.declared.changelogs.Changelog.{Changelog}
use Rattle.ks_cache.specs.Changelogs.{stores_in}

pub held_more : (l : Changelog) (ls : List Changelog) → ArePairs (fin.entries l.store.whole) → AreStores (stores_in ls) → AreStores (stores_in (l ∷ ls))
held_more l ls h more n = elim (n == l.topic) as (λ b. ArePairs (fin.entries (if b then l.store.whole else stores_in ls n))) [
  | true ↦ h
  | false ↦ more n
]

pub held_none : AreStores (stores_in [])
unfolding fin.entries fin.empty
held_none n = tt

pub held_empty : (ls : List Changelog) → length ls < 1 → AreStores (stores_in ls)
held_empty [] lt = held_none
held_empty (l ∷ ls) lt = absurd (omega (arith, lt))
