-- A task's store as its map, the list of what is held back, and how much that may be (Kafka Streams: a CachingKeyValueStore over a
-- KeyValueStore).
use Rattle.std.specs.Prelude.{ℕ, [], List, Option}
use Rattle.ks_record.specs.Records.{Record as Rec}
use Rattle.ks_def_runs.specs.Bytes.{Store, empty_store}
use Rattle.ks_def_runs.specs.FinMap as map
use Rattle.ks_history.specs.Machine.{applied, latest_from}
use Rattle.ks_cache.specs.Lists.{Pairs, without, put_cached, cached_with, cached_after}

-- the map with what is held back over it; where it writes at once the capacity is 0
pub record Kept : Type 0 where
  pub whole : Store
  pub cached : Pairs
  pub capacity : ℕ

abbrev pub kept_plain : Store → Kept
kept_plain m = record { whole = m; cached = []; capacity = 0 }

abbrev pub empty_kept : Kept
empty_kept = kept_plain empty_store

abbrev pub put_kept : Kept → List ℕ → List ℕ → Kept
put_kept s key value = record { whole = map.insert s.whole key value; cached = put_cached s.capacity key value s.cached; capacity = s.capacity }

abbrev pub delete_kept : Kept → List ℕ → Kept
delete_kept s key = record { whole = map.remove s.whole key; cached = without key s.cached; capacity = s.capacity }

-- with nothing held back, and at most so much from now on
abbrev pub held_back : ℕ → Kept → Kept
held_back capacity s = record { whole = s.whole; cached = []; capacity = capacity }

-- after one record of its changelog, and after a list of them
abbrev pub kept_with : Kept → Option (List ℕ) → Option (List ℕ) → Kept
kept_with s key value = record { whole = applied s.whole key value; cached = cached_with s.capacity key value s.cached; capacity = s.capacity }

abbrev pub kept_after : Kept → List Rec → Kept
kept_after s recs = record { whole = latest_from s.whole recs; cached = cached_after s.capacity s.cached recs; capacity = s.capacity }
