-- The tables of a settled run have lines.
use Rattle.std.proofs.Common.{◌≡◌, ◌<◌, ◌≤◌, ◌^◌, List, [], ◌∷◌, length, map, false, refl, arith, length-append}
use Rattle.std.specs.List.{AllByRecursion, flat_map}
use Rattle.serde_json.specs.Written.{compact_text}
use Rattle.ks_record.specs.declared.record.PartId.{PartId}
use Rattle.ks_plan.specs.Drafts.{Name, DraftView}
use Rattle.ks_plan.specs.Plan.{plan_of, known_nodes, node_number, is_stream}
use Rattle.ks_plan.specs.Layout.{kind_at}
use Rattle.ks_query.specs.Streams.{Input}
use Rattle.ks_query.specs.declared.table.Table.{Table}
use Rattle.ks_query.specs.declared.table.TableRow.{TableRow}
use Rattle.ks_query.specs.Printed.{head_line, row_line, row_data, table_text, tables_text}
use Rattle.ks_def_tasks.specs.Messages.{Rules}
use Rattle.ks_history.specs.declared.journal.Entry.{Entry}
use Rattle.ks_history.specs.Replay.{produced}
use Rattle.ks_law_exactly_once.specs.Keeping.{FitIn}
use Rattle.ks_law_kinds.specs.OfKind.{is_given}
use Rattle.ks_law_settled.specs.Folded.{folded_table}
use Rattle.ks_law_settled.specs.Settled.{IsRunOf, end_of}
use Rattle.ks_law_settled.proofs.Printed.{prints_tables}
use Rattle.ks_audit_verdict.proofs.Left.{TablesFit, names_of}
use Rattle.ks_law_accepted.specs.Accepted.{IsWord}
use Rattle.ks_law_accepted.proofs.Rows.{rows_fit}

-- ---- each row has a byte, at least
row_long : (r : TableRow) → 0 < length (row_line r)
unfolding row_line
row_long r = omega (arith, length-append (compact_text (row_data r)) (10 ∷ []))

rows_long : (rows : List TableRow) → length rows ≤ length (flat_map row_line rows)
rows_long [] = omega arith
rows_long (r ∷ rows) = omega (arith, row_long r, rows_long rows, length-append (row_line r) (flat_map row_line rows))

table_long : (t : Table) → length t.rows ≤ length (table_text t)
unfolding table_text
table_long t = omega (arith, rows_long t.rows, length-append (head_line t.name (length t.rows)) (flat_map row_line t.rows))

pub names_are : (f : Name → Table) → ((n : Name) → (f n).name ≡ n) → (names : List Name) → names_of (map f names) ≡ names
names_are f named [] = refl
names_are f named (n ∷ ns) = λ i. named n i ∷ names_are f named ns i

module _ (rules : Rules) (d : DraftView) (records : List Input) (journal : List Entry) (run : IsRunOf rules d records journal) (given : (q : PartId) → FitIn is_given q (produced journal q)) where
  abbrev f : Name → Table
  f = folded_table d (end_of rules d journal)

  abbrev Prints : Name → Type 0
  Prints name = (node_number (known_nodes d) name < length (plan_of d).kinds) × (is_stream (kind_at (plan_of d) (node_number (known_nodes d) name)) ≡ false)

  all_fit : (names : List Name) → AllByRecursion IsWord names → AllByRecursion Prints names → length (tables_text (map f names)) < 2 ^ 64 → TablesFit d (map f names)
  all_fit [] words prints few = tt
  all_fit (name ∷ names) words prints few =
      let size = length-append (table_text (f name)) (tables_text (map f names)) in (
        rows_fit rules d records journal run given (node_number (known_nodes d) name) prints.0.0 prints.0.1,
        omega (arith, few, size, table_long (f name)),
        words.0.0,
        words.0.1,
        all_fit names words.1 prints.1 (omega (arith, few, size)),
      )

  pub tables_fit : AllByRecursion IsWord d.print → length (tables_text (map f d.print)) < 2 ^ 64 → TablesFit d (map f d.print)
  tables_fit words few = all_fit d.print words (prints_tables d run.job.well) few
