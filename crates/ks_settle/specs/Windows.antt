-- The windows of a windowed count as they are read from its changelog, partition by partition and pair by pair.
-- Kafka Streams developer guide, "Windowing": a windowed table has a row for each key and window.
use Rattle.std.specs.Prelude.{ℕ, true, List, [], ◌∷◌, map, cond, Option, Some, option_map}
use Rattle.std.specs.BTreeMap.{insert_entry}
use Rattle.ks_wire.specs.Reading.{agg_from, window_key_from}
use Rattle.ks_expr.specs.Eval.{Row}
use Rattle.ks_plan.specs.Drafts.{OpView}
use Rattle.ks_plan.specs.Layout.{up_to}
use Rattle.ks_history.specs.State.{State}
use Rattle.ks_query.specs.Windows.{WindowKey, by_window}
use Rattle.ks_query.specs.Aggregates.{agg_row}
use Rattle.ks_query.specs.Printed.{plain_row, window_row}
use Rattle.ks_query.specs.declared.table.TableRow.{TableRow}
use Rattle.ks_settle.specs.Rows as rows
use Rattle.ks_settle.specs.Rows.{pairs_in, part_in, counts_windows}

-- in order of key bytes, then of starts
abbrev pub Windows : Type 0
Windows = List (WindowKey × Row)

-- with the row at the window; a pair whose key or value spells nothing of its kind counts as absent
abbrev pub put_window : Windows → Option WindowKey → Option Row → Windows
put_window windows (Some window) (Some row) = insert_entry by_window windows window row
put_window windows _ _ = windows

abbrev pub put_pairs : Windows → List (List ℕ × List ℕ) → Windows
put_pairs windows [] = windows
put_pairs windows (e ∷ es) = put_pairs (put_window windows (window_key_from e.0) (option_map (agg_row true) (agg_from e.1))) es

-- the pairs of some partitions of a changelog, one partition after another
abbrev pub put_parts : State → ℕ → Windows → List ℕ → Windows
put_parts s topic windows [] = windows
put_parts s topic windows (part ∷ parts) = put_parts s topic (put_pairs windows (pairs_in s (part_in topic part))) parts

-- ---- the rows that a node shows
-- of a windowed count by window, of another table by key
abbrev pub shown_rows : OpView → State → ℕ → ℕ → List TableRow
shown_rows op s topic parts = cond (counts_windows op) (map window_row (put_parts s topic [] (up_to parts))) (map plain_row (rows.put_parts op s topic [] (up_to parts)))
