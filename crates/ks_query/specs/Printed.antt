-- The text of tables: a head line for each, and a line for each row, in JSON.
use Rattle.std.specs.Prelude.{ℕ, pos, List, [], ◌∷◌, ◌++◌, length, map, codes, decimal, Option, Some, None, cond}
use Rattle.std.specs.List.{flat_map}
use Rattle.serde_json.specs.Data.{Data, Items, number, string, array, object, no_items, item, Members, no_members, put}
use Rattle.serde_json.specs.Find.{of_integer}
use Rattle.serde_json.specs.Written.{compact_text}
use Rattle.ks_row.specs.Rows.{Member}
use Rattle.ks_row.specs.declared.row.Field.{Field}
use Rattle.ks_row.specs.declared.row.Field.TheVariants.{Int, Text}
use Rattle.ks_expr.specs.Eval.{Row}
use Rattle.ks_plan.specs.Drafts.{Name, DraftView}
use Rattle.ks_plan.specs.Plan.{Plan, plan_of, known_nodes, node_number, is_windowed}
use Rattle.ks_plan.specs.Layout.{kind_at}
use Rattle.ks_def_runs.specs.FinMap as fin
use Rattle.ks_query.specs.declared.table.Table.{Table}
use Rattle.ks_query.specs.declared.table.TableRow.{TableRow}
use Rattle.ks_query.specs.Streams.{Key, Input}
use Rattle.ks_query.specs.Windows.{WindowKey}
use Rattle.ks_query.specs.Query.{Answers, query}

-- ---- the tables of a job: those of the names that it prints, in their order
abbrev pub plain_row : (Key × Row) → TableRow
plain_row e = record { key = e.0; start = None; row = e.1 }

abbrev pub window_row : (WindowKey × Row) → TableRow
window_row e = record { key = e.0.0; start = Some e.0.1; row = e.1 }

abbrev pub rows_at : Plan → Answers → ℕ → List TableRow
rows_at p a n = cond (is_windowed (kind_at p n)) (map window_row (fin.entries (a.windows n))) (map plain_row (fin.entries (a.tables n)))

abbrev pub table_at : DraftView → Answers → Name → Table
table_at d a name = record { name = name; rows = rows_at (plan_of d) a (node_number (known_nodes d) name) }

abbrev pub job_tables : DraftView → List Input → List Table
job_tables d records = map (table_at d (query (plan_of d) records)) d.print

-- ---- their text
abbrev pub field_data : Field → Data
field_data (Int z) = number (of_integer z)
field_data (Text s) = string s

-- the object with these members put in one after another
abbrev pub put_all : List Member → Members → Members
put_all [] found = found
put_all (m ∷ ms) found = put_all ms (put m.0 (field_data m.1) found)

abbrev pub row_object : List Member → Data
row_object row = object (put_all row no_members)

-- the start of a window stands between the key and the row
abbrev pub start_onto : Option ℕ → Items → Items
start_onto None rest = rest
start_onto (Some start) rest = item (number (of_integer (pos start))) rest

-- one JSON array
abbrev pub row_data : TableRow → Data
row_data r = array (item (string r.key) (start_onto r.start (item (row_object r.row) no_items)))

unfoldable pub row_line : TableRow → List ℕ
row_line r = compact_text (row_data r) ++ 10 ∷ []

-- the name and the number of rows
unfoldable pub head_line : Name → ℕ → List ℕ
head_line name count = codes "table " ++ name ++ codes " " ++ decimal count ++ 10 ∷ []

unfoldable pub table_text : Table → List ℕ
table_text t = head_line t.name (length t.rows) ++ flat_map row_line t.rows

abbrev pub tables_text : List Table → List ℕ
tables_text ts = flat_map table_text ts
