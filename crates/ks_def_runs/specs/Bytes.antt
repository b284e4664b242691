-- Maps whose keys are bytes.
use Rattle.std.specs.Prelude.{ℕ, List}
use Rattle.std.specs.declared.cmp.Ordering.{Ordering}
use Rattle.std.specs.Ordering.{nat_cmp}
use Rattle.std.specs.Cmp.Lexicographic.{slice_cmp}
use Rattle.ks_def_runs.specs.FinMap.{FinMap}
use Rattle.ks_def_runs.specs.FinMap as map

-- byte by byte; of two lists of which one begins the other, the shorter first
abbrev pub by_bytes : List ℕ → List ℕ → Ordering
by_bytes = slice_cmp nat_cmp

-- from the bytes of a key to those of its value
abbrev pub Store : Type 0
Store = FinMap by_bytes (List ℕ)

abbrev pub empty_store : Store
empty_store = map.empty
