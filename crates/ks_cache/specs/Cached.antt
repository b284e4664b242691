-- What a contract sees of a store with a cache.
use Rattle.std.specs.Prelude.{◌≡◌, ℕ, refl}
use Rattle.std.specs.Coded.{Coded, code_by, coded×, coded_list, coded_ℕ}
use Rattle.ks_def_runs.specs.Bytes.{Store}
use Rattle.ks_def_runs.specs.FinMap as map
use Rattle.ks_def_runs.specs.Pairs.{ArePairs}
use Rattle.ks_cache.specs.Lists.{Pairs, overlaid}

-- the store, the cached list, and how many pairs it may have
pub record Cached (S : Type 0) : Type 0 where
  pub inner : S
  pub cached : Pairs
  pub capacity : ℕ

module _ {S : Type 0} where
  abbrev pub cached_store : S → Pairs → ℕ → Cached S
  cached_store inner cached capacity = record { inner = inner; cached = cached; capacity = capacity }

  abbrev pub cached_code : Coded S → Coded (Cached S)
  cached_code s = code_by (S × (Pairs × ℕ)) (coded× s (coded× (coded_list (coded× (coded_list coded_ℕ) (coded_list coded_ℕ))) coded_ℕ)) (λ c. (c.inner, (c.cached, c.capacity))) (λ p. cached_store p.0 (p.1).0 (p.1).1) (λ _. refl)

  -- the map that it is, by the map that the store is
  abbrev pub map_of : (S → Store) → Cached S → Store
  map_of contents c = overlaid c.cached (contents c.inner)

  -- what it keeps: how many keys its map has, and that all that is cached are bytes
  pub record IsKept (contents : S → Store) (inner : S) (cached : Pairs) (count : ℕ) : Type 0 where
    pub counted : count ≡ map.len (overlaid cached (contents inner))
    pub bytes : ArePairs cached
