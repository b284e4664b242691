-- The rules that a task's records are spread and its rows hashed by, and what a topology's nodes must have.
use Rattle.std.specs.Prelude.{◌<◌, ◌≤◌, ℕ, List, length}
use Rattle.ks_row.specs.Spelling.{spelling}
use Rattle.ks_plan.specs.Plan.{Plan}
use Rattle.ks_plan.specs.Layout.{parts_of}
use Rattle.ks_plan.specs.Places.{spread_to}
use Rattle.ks_def_tasks.specs.Messages.{Rules}

-- each node has a partition
abbrev pub HaveParts : Plan → Type 0
HaveParts p = (n : ℕ) → n < length p.kinds → 1 ≤ parts_of p n

-- keys by Kafka's default partitioner, where one is stated by their front part; rows by the hash of their bytes
abbrev pub rules_of : (List ℕ → ℕ) → Rules
rules_of hash = record { part = spread_to; hash = λ row. hash (spelling row) }
