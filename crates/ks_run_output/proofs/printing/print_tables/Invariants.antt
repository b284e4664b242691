use Rattle.std.proofs.Common.{◌≡◌, ◌++◌, string_bytes}
use Rattle.std.specs.List.{flat_map}
use Rattle.std.specs.Vec.Iter.{into_iter_items, into_iter_len}
use Rattle.ks_query.specs.Printed.{table_text}
use Rattle.ks_run_output.proofs.printing.print_tables.Given as goal

-- the text so far, and that of the tables that are left
abbrev pub invariant-loop-table : goal.invariant-loop-table
invariant-loop-table g l = string_bytes l.text ++ flat_map table_text (into_iter_items l.rest) ≡ flat_map table_text l.fn.tables.items

abbrev pub decreases-loop-table : goal.decreases-loop-table
decreases-loop-table g l = into_iter_len l.rest
