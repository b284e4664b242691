-- Rows by the hash of their bytes. KIP-213: a join on a foreign key compares left rows by a hash alone.
use Rattle.std.specs.Prelude.{ℕ, Bool, false, not, ◌&&◌, nat_eq, List, [], Option, Some, None}
use Rattle.ks_row.specs.Spelling.{spelling}
use Rattle.ks_expr.specs.Eval.{Row, same_bytes}
use Rattle.ks_plan.specs.Plan.{Kind}
use Rattle.ks_plan.specs.Plan.Kind.{TableSource, TableAggregate}
use Rattle.ks_settle.specs.declared.rows.StoredForm.{StoredForm}
use Rattle.ks_settle.specs.declared.rows.StoredForm.TheVariants.{Plain, Members, Total}
use Rattle.ks_law_settled.specs.Collision.{OffsetPair}
use Rattle.ks_settle_report.specs.declared.pairs.Collision.{Collision}

abbrev pub row_hash : (List ℕ → ℕ) → Row → ℕ
row_hash hash row = hash (spelling row)

-- a kind of table whose rows are shown so
abbrev pub kind_as : StoredForm → Kind
kind_as Plain = TableSource 0
kind_as Members = TableAggregate 0 [] None
kind_as Total = TableAggregate 0 [] (Some [])

-- both are there, differ, and have one hash
abbrev pub is_same_hash : (List ℕ → ℕ) → Option (List ℕ) → Option (List ℕ) → Bool
is_same_hash hash (Some a) (Some b) = not (same_bytes a b) && nat_eq (hash a) (hash b)
is_same_hash hash a b = false

abbrev pub pair_of : Collision → OffsetPair
pair_of c = record { key = c.key; first = c.first; second = c.second }
