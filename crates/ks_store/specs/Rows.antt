-- The rows of two hash tables, one of short keys and one of long keys, as lists of bytes, the map that they are, and the list of keys
-- beside them.
use Rattle.std.specs.Prelude.{◌≡◌, ℕ, List, [], ◌∷◌, map, Option, Some, None, length, cond, nat_le}
use Rattle.std.specs.Global.{Vec}
use Rattle.std.specs.FinMap.Entries.{find}
use Rattle.ks_def_runs.specs.Bytes.{Store, by_bytes}
use Rattle.ks_def_runs.specs.FinMap as fin
use Rattle.ks_store.specs.Groups.{Keys, AreGroups, ListsRows}
use Rattle.ks_def_runs.specs.Pairs.{ArePairs}

abbrev pub rows_by : {K : Type 0} → (K → List ℕ) → List (K × List ℕ) → List (List ℕ × List ℕ)
rows_by bytes es = map (λ e. (bytes e.0, e.1)) es

abbrev pub short_rows : List (List ℕ × List ℕ) → List (List ℕ × List ℕ)
short_rows es = rows_by (λ k. k) es

abbrev pub long_rows : List (Vec ℕ × List ℕ) → List (List ℕ × List ℕ)
long_rows es = rows_by (λ k. k.items) es

-- no short key has a row in the table of long keys, and no long key in that of short ones
abbrev pub AreApart : List (List ℕ × List ℕ) → List (List ℕ × List ℕ) → Type 0
AreApart short long = (q : List ℕ) → cond (nat_le (length q) 23) (find by_bytes q long) (find by_bytes q short) ≡ None

-- rows, and the state with which the hashes of their keys begin
pub record HashedRows : Type 0 where
  pub rows : List (List ℕ × List ℕ)
  pub start : ℕ

-- a map, and the state with which the hashes of its keys begin
pub record HashedStore : Type 0 where
  pub store : Store
  pub start : ℕ

-- of several rows of a key the first counts
abbrev pub row_store : List (List ℕ × List ℕ) → Store
row_store es = fin.from_entries es

abbrev pub with_found : Option (List ℕ) → List ℕ → List (List ℕ × List ℕ) → List (List ℕ × List ℕ)
with_found None k more = more
with_found (Some v) k more = (k, v) ∷ more

-- the rows of the keys of a list, in its order
abbrev pub rows_for : List (List ℕ × List ℕ) → List (List ℕ × List ℕ) → List (List ℕ × List ℕ)
rows_for rows [] = []
rows_for rows (e ∷ es) = with_found (find by_bytes e.0 rows) e.0 (rows_for rows es)

-- what a table keeps: its groups have the keys with a front that have a row, there is one row for each key, and all that it holds is bytes
abbrev pub IsTable : List (List ℕ × List ℕ) → List (List ℕ × Keys) → Type 0
IsTable rows groups = (AreGroups groups × ListsRows rows groups) × (length rows ≡ fin.len (row_store rows)) × ArePairs (fin.entries (row_store rows))
