-- The cached list: the writes since the last flush that a bounded cache holds, the newest first, and what it has written through (Kafka
-- Streams: record caches).
use Rattle.std.specs.Prelude.{ℕ, ◌==◌, not, List, [], ◌∷◌, take, drop, Option, Some, None}
use Rattle.ks_record.specs.Records.{Record as Rec}
use Rattle.std.specs.List.{starts_with}
use Rattle.std.specs.Ordering.{eq_by_cmp}
use Rattle.std.specs.FinMap.Entries.{where_key}
use Rattle.ks_def_runs.specs.Bytes.{Store, by_bytes}
use Rattle.ks_def_runs.specs.FinMap as map

-- pairs of a key and its value
abbrev pub Pairs : Type 0
Pairs = List (List ℕ × List ℕ)

-- a map with pairs over it; of two pairs with one key the first counts
abbrev pub overlaid : Pairs → Store → Store
overlaid [] m = m
overlaid (e ∷ es) m = map.insert (overlaid es m) e.0 e.1

-- the pairs whose key begins so
abbrev pub under : List ℕ → Pairs → Pairs
under front es = where_key by_bytes (λ k. starts_with ◌==◌ k front) es

-- the pairs without those of a key
abbrev pub without : List ℕ → Pairs → Pairs
without key es = where_key by_bytes (λ k. not (eq_by_cmp by_bytes key k)) es

-- a put moves its pair to the front
abbrev pub moved : List ℕ → List ℕ → Pairs → Pairs
moved key value es = (key, value) ∷ without key es

-- so many stay, and what is more is written through
abbrev pub put_cached : ℕ → List ℕ → List ℕ → Pairs → Pairs
put_cached capacity key value es = take capacity (moved key value es)

abbrev pub put_through : ℕ → List ℕ → List ℕ → Pairs → Pairs
put_through capacity key value es = drop capacity (moved key value es)

-- ---- a list of changes, each a key with its value, or with none where it is taken out; what has no key changes nothing
abbrev pub cached_with : ℕ → Option (List ℕ) → Option (List ℕ) → Pairs → Pairs
cached_with capacity None value es = es
cached_with capacity (Some key) (Some value) es = put_cached capacity key value es
cached_with capacity (Some key) None es = without key es

-- the cached list after records of a changelog, from the last flush on
abbrev pub cached_after : ℕ → Pairs → List Rec → Pairs
cached_after capacity es [] = es
cached_after capacity es (r ∷ rs) = cached_after capacity (cached_with capacity r.key r.value es) rs
