-- What a task's decoded stores have, looked up in their bytes.
use Rattle.std.specs.Prelude.{◌≡◌, ℕ, List, [], Option, Some, None, cond}
use Rattle.ks_record.specs.Texts.{IsKey, key_from}
use Rattle.ks_row.specs.Reading.{◌>>=◌}
use Rattle.ks_plan.specs.Plan.{Plan, is_windowed}
use Rattle.ks_plan.specs.Layout.{kind_at, number_of}
use Rattle.ks_plan.specs.declared.node.Topic.TheVariants.{Changelog, HashChangelog}
use Rattle.ks_def_runs.specs.FinMap as fin
use Rattle.ks_wire.specs.Spelling.{subscription_key}
use Rattle.ks_wire.specs.Reading.{subscriber_from}
use Rattle.ks_wire.specs.declared.values.Subscriber.{Subscriber}
use Rattle.ks_query.specs.Streams.{Key}
use Rattle.ks_def_tasks.specs.Messages.{Stored}
use Rattle.ks_def_tasks.specs.Bytes.{ByteStores, is_own, stored_from, store_from}
use Rattle.ks_def_tasks.specs.Laws.{AreBytes}
use Rattle.ks_def_lookups.specs.Kept.{kept_under}

-- a table's value at a key: of a windowed count, and of a node that other tasks keep, none
abbrev pub table_at : Plan → ℕ → ByteStores → ℕ → Key → Option Stored
table_at p sub stores n k = cond (is_windowed (kind_at p n)) None (cond (is_own p sub (Changelog n)) (fin.get (stores (number_of p (Changelog n))) k >>= stored_from (kind_at p n)) None)

-- the subscriber at a foreign key and a left key
abbrev pub subscriber_at : Plan → ℕ → ByteStores → ℕ → Key → Key → Option Subscriber
subscriber_at p sub stores n b k = cond (is_own p sub (HashChangelog n)) (fin.get (stores (number_of p (HashChangelog n))) (subscription_key b k) >>= subscriber_from) None

-- all subscribers at a foreign key, in order of left keys
abbrev pub kept_at : Plan → ℕ → ByteStores → ℕ → Key → List (Key × Subscriber)
kept_at p sub stores n b = cond (is_own p sub (HashChangelog n)) (kept_under b (stores (number_of p (HashChangelog n)))) []

pub record LooksUp (p : Plan) (sub : ℕ) (stores : ByteStores) : Type 0 where
  pub tables : (n : ℕ) (k : Key) → key_from k ≡ Some k → fin.get ((store_from p sub stores).tables n) k ≡ table_at p sub stores n k
  pub hashes : (n : ℕ) → AreBytes (fin.entries (stores (number_of p (HashChangelog n)))) → (b k : Key) → IsKey b → IsKey k → fin.get ((store_from p sub stores).hashes n b) k ≡ subscriber_at p sub stores n b k
  pub kept : (n : ℕ) → AreBytes (fin.entries (stores (number_of p (HashChangelog n)))) → (b : Key) → IsKey b → fin.entries ((store_from p sub stores).hashes n b) ≡ kept_at p sub stores n b

abbrev pub StoresAreLookedUp : Type 0
StoresAreLookedUp = (p : Plan) (sub : ℕ) (stores : ByteStores) → LooksUp p sub stores
