-- The tables that the folds of a cluster's changelogs are.
-- Kafka Streams developer guide, "KTable", "State stores" and "Windowing": a table is what its changelog says, over all its partitions.
-- KIP-98: of a changelog the records of committed transactions count.
use Rattle.std.specs.Prelude.{ℕ, List, map, fold, cond, true, Option, option_map}
use Rattle.ks_record.specs.Texts.{key_from}
use Rattle.ks_record.specs.declared.record.PartId.{PartId}
use Rattle.ks_plan.specs.Drafts.{Name, DraftView}
use Rattle.ks_plan.specs.Plan.{Plan, Kind, plan_of, known_nodes, node_number, is_windowed}
use Rattle.ks_plan.specs.Layout.{up_to, parts_of, kind_at, number_of}
use Rattle.ks_plan.specs.declared.node.Topic.TheVariants.{Changelog}
use Rattle.ks_expr.specs.Eval.{Row}
use Rattle.ks_def_runs.specs.FinMap as fin
use Rattle.ks_def_runs.specs.FinMap.{FinMap}
use Rattle.ks_def_runs.specs.Bytes.{by_bytes}
use Rattle.ks_history.specs.State.{State}
use Rattle.ks_history.specs.Faithful as history
use Rattle.ks_query.specs.declared.table.Table.{Table}
use Rattle.ks_query.specs.declared.table.TableRow.{TableRow}
use Rattle.ks_query.specs.Windows.{by_window}
use Rattle.ks_query.specs.Aggregates.{agg_row}
use Rattle.ks_query.specs.Printed.{plain_row, window_row}
use Rattle.ks_wire.specs.Reading.{agg_from, window_key_from}
use Rattle.ks_def_tasks.specs.Messages.{shown}
use Rattle.ks_def_tasks.specs.Bytes.{stored_from, with_pair}

-- the row that a stored value is shown as
abbrev pub row_from : Kind → List ℕ → Option Row
row_from kind bytes = option_map shown (stored_from kind bytes)

-- with the rows that these pairs are; a pair whose key or value spells nothing of its kind counts as absent
abbrev pub with_rows : Kind → FinMap by_bytes Row → List (List ℕ × List ℕ) → FinMap by_bytes Row
with_rows kind m es = fold (λ rows e. with_pair by_bytes rows (key_from e.0) (row_from kind e.1)) m es

-- the partition of a node's changelog
abbrev pub log_part : Plan → ℕ → ℕ → PartId
log_part p n part = record { topic = number_of p (Changelog n); part = part }

-- what is kept in one partition of a node's changelog
abbrev pub fold_pairs : Plan → State → ℕ → ℕ → List (List ℕ × List ℕ)
fold_pairs p s n part = fin.entries (history.fold s (log_part p n part))

-- those of some partitions, one after another
abbrev pub rows_of : Plan → State → ℕ → List ℕ → FinMap by_bytes Row
rows_of p s n parts = fold (λ rows part. with_rows (kind_at p n) rows (fold_pairs p s n part)) fin.empty parts

-- the rows of a node over all partitions of its changelog, as one map
abbrev pub node_rows : Plan → State → ℕ → FinMap by_bytes Row
node_rows p s n = rows_of p s n (up_to (parts_of p n))

-- with the windows that these pairs are; the greatest timestamp's key is no window's, so that pair counts as absent
abbrev pub with_windows : FinMap by_window Row → List (List ℕ × List ℕ) → FinMap by_window Row
with_windows m es = fold (λ rows e. with_pair by_window rows (window_key_from e.0) (option_map (agg_row true) (agg_from e.1))) m es

abbrev pub windows_of : Plan → State → ℕ → List ℕ → FinMap by_window Row
windows_of p s n parts = fold (λ rows part. with_windows rows (fold_pairs p s n part)) fin.empty parts

-- the windows of a windowed count over all partitions of its changelog, as one map: by key bytes, then by start
abbrev pub node_windows : Plan → State → ℕ → FinMap by_window Row
node_windows p s n = windows_of p s n (up_to (parts_of p n))

-- of a windowed count by window, of another table by key
abbrev pub folded_rows : Plan → State → ℕ → List TableRow
folded_rows p s n = cond (is_windowed (kind_at p n)) (map window_row (fin.entries (node_windows p s n))) (map plain_row (fin.entries (node_rows p s n)))

abbrev pub folded_table : DraftView → State → Name → Table
folded_table d s name = record { name = name; rows = folded_rows (plan_of d) s (node_number (known_nodes d) name) }

-- of the names that the job prints, in their order
abbrev pub folded_tables : DraftView → State → List Table
folded_tables d s = map (folded_table d s) d.print
