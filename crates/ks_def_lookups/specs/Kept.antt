-- What the store of the right side keeps: for each foreign key the left keys that asked for it, each with the hash of its row and the partition that it named
-- (KIP-213: the subscription store, whose keys begin with the foreign key).
use Rattle.std.specs.Prelude.{ℕ, List, Option, Some}
use Rattle.ks_row.specs.Reading.{◌>>=◌}
use Rattle.ks_def_runs.specs.Bytes.{Store}
use Rattle.ks_wire.specs.Spelling.{long_key}
use Rattle.ks_wire.specs.declared.values.Subscriber.{Subscriber}
use Rattle.ks_wire.specs.Reading.{subscription_key_from, subscriber_from}
use Rattle.ks_def_runs.specs.Prefixes.{pairs_under}
use Rattle.ks_query.specs.Streams.{Key, some_of}

-- the left key that a pair names and its subscriber, where both are spelled
unfoldable pub kept_in : List ℕ × List ℕ → Option (Key × Subscriber)
kept_in e = do
  key ← subscription_key_from e.0
  subscriber ← subscriber_from e.1
  Some (key.1, subscriber)

-- the left keys under a foreign key with their subscribers, in order of bytes; a pair that is spelled otherwise counts as absent
abbrev pub kept_under : Key → Store → List (Key × Subscriber)
kept_under foreign m = some_of kept_in (pairs_under (long_key foreign) m)
