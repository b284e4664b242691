-- The place of a key: the partition of that part of it by which it is spread (Kafka's `DefaultPartitioner`).
use Rattle.std.specs.Prelude.{ℕ, List}
use Rattle.ks_hash.specs.Partition.{part_of_key}
use Rattle.ks_expr.specs.Keys.{spread_part}
use Rattle.ks_plan.specs.declared.node.Spread.{Spread}

abbrev pub spread_to : List ℕ → Spread → ℕ
spread_to key s = part_of_key (spread_part s.before key) s.parts
