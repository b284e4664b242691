-- The pairs of a store whose key begins with given bytes.
use Rattle.std.specs.Prelude.{ℕ, List, ◌==◌}
use Rattle.std.specs.List.{filter, starts_with}
use Rattle.ks_def_runs.specs.Bytes.{Store}
use Rattle.ks_def_runs.specs.FinMap as map

-- in order of bytes
abbrev pub pairs_under : List ℕ → Store → List (List ℕ × List ℕ)
pairs_under front m = filter (λ e. starts_with ◌==◌ e.0 front) (map.entries m)
