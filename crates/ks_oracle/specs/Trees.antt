-- A tree as the finite map of its entries.
use Rattle.std.specs.Prelude.{List, T}
use Rattle.std.specs.declared.cmp.Ordering.{Ordering}
use Rattle.std.specs.FinMap.Entries.{is_sorted}
use Rattle.ks_def_runs.specs.FinMap.{FinMap, from_sorted}

-- the keys strictly rise
abbrev pub Rises : {K V : Type 0} → (K → K → Ordering) → List (K × V) → Type 0
Rises cmp es = T (is_sorted cmp es)

abbrev pub map_of : {K V : Type 0} → (cmp : K → K → Ordering) → List (K × V) → FinMap cmp V
map_of cmp es = from_sorted {R = cmp} es
