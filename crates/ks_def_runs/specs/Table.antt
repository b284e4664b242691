-- Tables as finite maps, and what a list of changes leaves.
use Rattle.std.specs.Prelude.{ℕ, List, Option, Some, None, fold, cond, ◌+◌, [], ◌∷◌}
use Rattle.std.specs.declared.cmp.Ordering.{Ordering}
use Rattle.std.specs.Ordering.{eq_by_cmp}
use Rattle.ks_def_runs.specs.FinMap as map
use Rattle.ks_def_runs.specs.FinMap.{FinMap}

-- a record of a table's topic: a key, and its new row or none
abbrev pub Change : Type 0 → Type 0 → Type 0
Change K X = K × Option X

module _ {K X : Type 0} (R : K → K → Ordering) where
  -- the value of the last record with the key k
  abbrev pub last : List (Change K X) → K → Option X
  last records k = fold (λ found r. cond (eq_by_cmp R k r.0) r.1 found) None records

  abbrev pub write : FinMap R X → K → Option X → FinMap R X
  write m k None = map.remove m k
  write m k (Some x) = map.insert m k x

  -- the map after the changes, one after another
  abbrev pub latest : List (Change K X) → FinMap R X
  latest records = fold (λ m r. write m r.0 r.1) map.empty records

  -- what the rows of the entries add up to, by their shares
  abbrev pub sum_of : (X → ℕ) → List (K × X) → ℕ
  sum_of share [] = 0
  sum_of share (e ∷ es) = share e.1 + sum_of share es

  abbrev pub total : (X → ℕ) → FinMap R X → ℕ
  total share m = sum_of share (map.entries m)

abbrev pub share_of : {X : Type 0} → (X → ℕ) → Option X → ℕ
share_of share None = 0
share_of share (Some x) = share x
