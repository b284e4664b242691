-- The rows of a node as they are read from its changelog, partition by partition and pair by pair.
-- Kafka Streams developer guide, "KTable": a table is what its changelog says.
use Rattle.std.specs.Prelude.{◌≡◌, ◌==◌, ◌+◌, ◌≤◌, ℕ, zero, suc, slice_index, Bool, true, false, List, [], ◌∷◌, ◌++◌, length, map, cond, Option, Some, None, option_map}
use Rattle.std.specs.BTreeMap.{insert_entry}
use Rattle.std.specs.Cmp.Lexicographic.{pointwise}
use Rattle.std.specs.Set.{sorted_merge}
use Rattle.std.specs.declared.cmp.Ordering.{Ordering}
use Rattle.std.specs.declared.cmp.Ordering.TheVariants.{Less, Greater}
use Rattle.ks_record.specs.Texts.{key_from}
use Rattle.ks_row.specs.Reading.{row_from}
use Rattle.ks_record.specs.declared.record.PartId.{PartId}
use Rattle.ks_wire.specs.Reading.{agg_from}
use Rattle.ks_expr.specs.Eval.{Row}
use Rattle.ks_plan.specs.Drafts.{Name, OpView, StreamOf, CountOf, SumOf, WindowedOf, op_view, DraftView}
use Rattle.ks_plan.specs.declared.node.Node.{Node}
use Rattle.ks_plan.specs.declared.node.Topic.TheVariants.{Changelog}
use Rattle.ks_plan.specs.Plan.{plan_of, known_nodes, node_number, is_windowed}
use Rattle.ks_plan.specs.Layout.{number_of, parts_of, kind_at, topics_of, parts_of_topic}
use Rattle.ks_law_settled.specs.Folded as folded
use Rattle.ks_def_runs.specs.Bytes.{by_bytes}
use Rattle.ks_def_runs.specs.FinMap as fin
use Rattle.ks_history.specs.State.{State}
use Rattle.ks_history.specs.Faithful as history
use Rattle.ks_query.specs.Streams.{Key}
use Rattle.ks_query.specs.Printed.{plain_row}
use Rattle.ks_query.specs.declared.table.TableRow.{TableRow}
use Rattle.ks_query.specs.Aggregates.{agg_row}
use Rattle.ks_settle.specs.declared.rows.StoredForm.{StoredForm}
use Rattle.ks_settle.specs.declared.rows.StoredForm.TheVariants.{Plain, Members, Total}

-- the rows of a table in order of key bytes
abbrev pub Rows : Type 0
Rows = List (Key × Row)

-- an operation of which this is shown
abbrev pub op_as : StoredForm → OpView
op_as Plain = StreamOf []
op_as Members = CountOf [] None
op_as Total = SumOf [] None []

-- what a node keeps at a key, as the row that it shows: a count's members, a sum's total, else the row itself
abbrev pub row_by : OpView → List ℕ → Option Row
row_by (CountOf from by) bytes = option_map (agg_row true) (agg_from bytes)
row_by (SumOf from by field) bytes = option_map (agg_row false) (agg_from bytes)
row_by op bytes = row_from bytes

-- with the row at the key; a pair whose key or value spells nothing of its kind counts as absent
abbrev pub put_row : Rows → Option Key → Option Row → Rows
put_row rows (Some key) (Some row) = insert_entry by_bytes rows key row
put_row rows _ _ = rows

abbrev pub put_pairs : OpView → Rows → List (List ℕ × List ℕ) → Rows
put_pairs op rows [] = rows
put_pairs op rows (e ∷ es) = put_pairs op (put_row rows (key_from e.0) (row_by op e.1)) es

-- what is kept in a changelog's partition
abbrev pub pairs_in : State → PartId → List (List ℕ × List ℕ)
pairs_in s p = fin.entries (history.fold s p)

-- the partition of a changelog
abbrev pub part_in : ℕ → ℕ → PartId
part_in topic part = record { topic = topic; part = part }

-- the pairs of some partitions of a changelog, one partition after another
abbrev pub put_parts : OpView → State → ℕ → Rows → List ℕ → Rows
put_parts op s topic rows [] = rows
put_parts op s topic rows (part ∷ parts) = put_parts op s topic (put_pairs op rows (pairs_in s (part_in topic part))) parts

-- the first node of this name
abbrev pub node_named : List Node → Name → Option Node
node_named [] name = None
node_named (n ∷ ns) name = cond (pointwise ◌==◌ n.name name) (Some n) (node_named ns name)

-- so many partitions from this number on
abbrev pub parts_from : ℕ → ℕ → List ℕ
parts_from from zero = []
parts_from from (suc count) = parts_from from count ++ (from + count) ∷ []

-- ---- rows as they are printed, in order of key bytes
-- with the row at the end; as in put_row, what spells nothing counts as absent
abbrev pub push_row : List TableRow → Option Key → Option Row → List TableRow
push_row rows (Some key) (Some row) = rows ++ plain_row (key, row) ∷ []
push_row rows _ _ = rows

abbrev pub push_pairs : OpView → List TableRow → List (List ℕ × List ℕ) → List TableRow
push_pairs op rows [] = rows
push_pairs op rows (e ∷ es) = push_pairs op (push_row rows (key_from e.0) (row_by op e.1)) es

-- how the first rows of two lists stand to one another; the end of a list stands behind each row
abbrev pub first_of : List TableRow → List TableRow → Ordering
first_of xs [] = Less
first_of [] (y ∷ ys) = Greater
first_of (x ∷ xs) (y ∷ ys) = by_bytes x.key y.key

-- two lists as one; where both have a key, the row of the first
abbrev pub merged_rows : List TableRow → List TableRow → List TableRow
merged_rows = sorted_merge (λ x y. by_bytes x.key y.key) true

-- the operation is a windowed count
abbrev pub counts_windows : OpView → Bool
counts_windows (WindowedOf f by size advance grace) = true
counts_windows _ = false

-- a node's rows are read from a changelog: of this number, over so many partitions, by the node's operation
pub record IsKept (d : DraftView) (name : Name) (node : Node) (topic : ℕ) : Type 0 where
  pub named : node.name ≡ name
  pub number : topic ≡ number_of (plan_of d) (Changelog (node_number (known_nodes d) name))
  pub parts : node.parts ≡ parts_of (plan_of d) (node_number (known_nodes d) name)
  pub op : (bytes : List ℕ) → folded.row_from (kind_at (plan_of d) (node_number (known_nodes d) name)) bytes ≡ row_by (op_view node.op) bytes
  pub windowed : is_windowed (kind_at (plan_of d) (node_number (known_nodes d) name)) ≡ counts_windows (op_view node.op)
  pub within : topic + 1 ≤ length (topics_of (plan_of d))
  pub count : slice_index (map (parts_of_topic (plan_of d)) (topics_of (plan_of d))) topic ≡ node.parts

-- the name stands among those that are printed
pub record IsPrinted (d : DraftView) (name : Name) : Type 0 where
  pub before : List Name
  pub after : List Name
  pub is : d.print ≡ before ++ name ∷ after
