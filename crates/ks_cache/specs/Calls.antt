-- Calls of a store with a cache: the cached list and the store below it.
use Rattle.std.specs.Prelude.{ℕ, List, [], ◌∷◌}
use Rattle.ks_def_runs.specs.Bytes.{Store}
use Rattle.ks_def_runs.specs.FinMap as map
use Rattle.ks_store.specs.declared.calls.StoreCall.{StoreCall}
use Rattle.ks_store.specs.declared.calls.StoreCall.TheVariants.{Put, Delete}
use Rattle.ks_cache.specs.Lists.{Pairs, overlaid, without, put_cached, put_through}

-- the cached list after a call
abbrev pub cached_by : ℕ → Pairs → StoreCall → Pairs
cached_by capacity es (Put key value) = put_cached capacity key value es
cached_by capacity es (Delete key) = without key es
cached_by capacity es _ = es

-- the store below after a call, of a list that stood before
abbrev pub below_by : ℕ → Pairs → Store → StoreCall → Store
below_by capacity es m (Put key value) = overlaid (put_through capacity key value es) m
below_by capacity es m (Delete key) = map.remove m key
below_by capacity es m _ = m

-- ---- after a list of calls
abbrev pub cached_by_all : ℕ → Pairs → List StoreCall → Pairs
cached_by_all capacity es [] = es
cached_by_all capacity es (x ∷ xs) = cached_by_all capacity (cached_by capacity es x) xs

abbrev pub below_by_all : ℕ → Pairs → Store → List StoreCall → Store
below_by_all capacity es m [] = m
below_by_all capacity es m (x ∷ xs) = below_by_all capacity (cached_by capacity es x) (below_by capacity es m x) xs
