-- The first hash collision of a changelog, by partition. KIP-213 on joins on a foreign key, which compare rows by their hashes.
use Rattle.std.specs.Prelude.{ℕ, List, [], ◌∷◌, Option, None}
use Rattle.std.specs.Option.{option_or}
use Rattle.ks_expr.specs.Eval.{Row}
use Rattle.ks_plan.specs.Plan.{Kind}
use Rattle.ks_history.specs.State.{State}
use Rattle.ks_history.specs.Reads.{decided_records}
use Rattle.ks_settle.specs.Rows.{part_in}
use Rattle.ks_law_settled.specs.Collision.{OffsetPair, first_in}

-- of some partitions of a changelog, that of the first which has one
abbrev pub first_of : (Row → ℕ) → Kind → State → ℕ → List ℕ → Option OffsetPair
first_of hash kind s topic [] = None
first_of hash kind s topic (part ∷ parts) = option_or (first_in hash kind (decided_records s (part_in topic part))) (first_of hash kind s topic parts)
