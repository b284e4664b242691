use Rattle.std.proofs.Common.{◌≡◌, ◌++◌, map}
use Rattle.ks_query.specs.Printed.{window_row}
use Rattle.ks_settle.proofs.windows.rows_of.Given as goal

-- what is listed and what is left are all
abbrev pub invariant-loop-window : goal.invariant-loop-window
invariant-loop-window l = l.rows.items ++ map window_row l.window-iterator ≡ map window_row l.windows.entries
