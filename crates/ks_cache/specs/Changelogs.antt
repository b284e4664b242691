-- The stores of a task, by the number of their changelog.
use Rattle.std.specs.Prelude.{ℕ, ◌==◌, List, [], ◌∷◌, if◌then◌else◌}
use Rattle.ks_def_runs.specs.Bytes.{Store, empty_store}
use Rattle.ks_cache.specs.declared.changelogs.Changelog.{Changelog}

abbrev pub stores_in : List Changelog → ℕ → Store
stores_in [] number = empty_store
stores_in (l ∷ ls) number = if number == l.topic then l.store.whole else stores_in ls number
