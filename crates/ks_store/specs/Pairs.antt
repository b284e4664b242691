-- The pairs of a tree of vectors, as lists of bytes, and the map that they are.
use Rattle.std.specs.Prelude.{ℕ, List, map, T}
use Rattle.std.specs.Global.{Vec}
use Rattle.std.specs.FinMap.Entries.{is_sorted}
use Rattle.ks_def_runs.specs.Bytes.{Store, by_bytes}
use Rattle.ks_def_runs.specs.FinMap as fin
use Rattle.ks_def_runs.specs.Pairs.{ArePairs}

abbrev pub pairs_of : List (Vec ℕ × Vec ℕ) → List (List ℕ × List ℕ)
pairs_of es = map (λ e. (e.0.items, e.1.items)) es

-- the keys strictly rise
abbrev pub Rises : List (List ℕ × List ℕ) → Type 0
Rises es = T (is_sorted by_bytes es)

abbrev pub store_of : List (Vec ℕ × Vec ℕ) → Store
store_of es = fin.from_sorted (pairs_of es)

-- what the tree of a store keeps: its keys rise, and all that it holds is bytes
abbrev pub IsTree : List (List ℕ × List ℕ) → Type 0
IsTree es = Rises es × ArePairs es
