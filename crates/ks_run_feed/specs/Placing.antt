-- The records of a job at their partitions: a record with a key goes to the place of its key in its topic, one without a key to the first.
use Rattle.std.specs.Prelude.{ℕ, List, map, Option, Some, None}
use Rattle.ks_record.specs.Records.{Record as Rec}
use Rattle.ks_record.specs.declared.record.PartId.{PartId}
use Rattle.ks_plan.specs.declared.node.Spread.{Spread}
use Rattle.ks_plan.specs.Plan.{Plan}
use Rattle.ks_plan.specs.Layout.{topics_of, parts_of_topic}
use Rattle.ks_plan.specs.Places.{spread_to}
use Rattle.ks_topo.specs.Places.{spread_in}
use Rattle.ks_query.specs.Streams.{some_of}
use Rattle.ks_job.specs.Items.{ItemView, TopologyAt, RecordTo}

-- the partition count of each topic
abbrev pub counts_in : Plan → List ℕ
counts_in p = map (parts_of_topic p) (topics_of p)

-- the place of a key; without a key it is the first
abbrev pub part_at : Option (List ℕ) → Spread → ℕ
part_at None s = 0
part_at (Some key) s = spread_to key s

-- a record at its place
abbrev pub placed : Plan → ℕ → Rec → PartId × Rec
placed p topic rec = (record { topic = topic; part = part_at rec.key (spread_in p topic) }, rec)

abbrev pub placed_in : Plan → ItemView → Option (PartId × Rec)
placed_in p (TopologyAt line d) = None
placed_in p (RecordTo topic rec) = Some (placed p topic rec)

abbrev pub placed_all : Plan → List ItemView → List (PartId × Rec)
placed_all p is = some_of (placed_in p) is
