use Rattle.std.proofs.Common.{◌≡◌, ◌++◌, map, length}
use Rattle.ks_def_runs.specs.FinMap as fin
use Rattle.ks_query.specs.Printed.{plain_row}
use Rattle.ks_oracle.proofs.printing.plain_rows.Given as goal

abbrev pub invariant-loop-rest : goal.invariant-loop-rest
invariant-loop-rest l = l.printed.items ++ map plain_row l.rest ≡ map plain_row (fin.entries l.rows)

abbrev pub decreases-loop-rest : goal.decreases-loop-rest
decreases-loop-rest l = length l.rest
