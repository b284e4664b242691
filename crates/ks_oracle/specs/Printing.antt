-- The tables that are printed, from the nodes and their answers.
use Rattle.std.specs.Prelude.{ℕ, List, map, slice_get, Option, Some, None, cond}
use Rattle.ks_plan.specs.declared.node.Node.{Node}
use Rattle.ks_plan.specs.declared.node.Wiring.{Wiring}
use Rattle.ks_plan.specs.Drafts.{Name}
use Rattle.ks_plan.specs.Plan.{name_place, gives_windows}
use Rattle.ks_def_runs.specs.FinMap as fin
use Rattle.ks_query.specs.declared.table.Table.{Table}
use Rattle.ks_query.specs.declared.table.TableRow.{TableRow}
use Rattle.ks_query.specs.Query.{Answers}
use Rattle.ks_query.specs.Printed.{plain_row, window_row}

abbrev pub names_of : List Node → List Name
names_of ns = map (λ (n : Node). n.name) ns

-- by whether the node counts by windows
abbrev pub rows_for : Answers → Wiring → ℕ → List TableRow
rows_for a w n = cond (gives_windows w) (map window_row (fin.entries (a.windows n))) (map plain_row (fin.entries (a.tables n)))

abbrev pub table_for : Answers → Name → ℕ → Option Node → Option Table
table_for a name n None = None
table_for a name n (Some node) = Some (record { name = name; rows = rows_for a node.wiring n })

-- the table of a name; none where no node has it
abbrev pub table_named : List Node → Answers → Name → Option Table
table_named ns a name = table_for a name (name_place (names_of ns) name) (slice_get ns (name_place (names_of ns) name))
