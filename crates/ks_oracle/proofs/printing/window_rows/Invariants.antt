use Rattle.std.proofs.Common.{◌≡◌, ◌++◌, true, map, length}
use Rattle.ks_def_runs.specs.FinMap as fin
use Rattle.ks_query.specs.Printed.{window_row}
use Rattle.ks_query.specs.Aggregates.{agg_row}
use Rattle.ks_oracle.proofs.printing.window_rows.Given as goal

abbrev pub invariant-loop-rest : goal.invariant-loop-rest
invariant-loop-rest l = l.printed.items ++ map window_row (map (λ e. (e.0, agg_row true e.1)) l.rest) ≡ map window_row (map (λ e. (e.0, agg_row true e.1)) (fin.entries l.spans))

abbrev pub decreases-loop-rest : goal.decreases-loop-rest
decreases-loop-rest l = length l.rest
