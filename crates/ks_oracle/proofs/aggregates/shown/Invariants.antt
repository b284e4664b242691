use Rattle.std.proofs.Common.{◌≡◌, Some, fold, length}
use Rattle.ks_def_runs.specs.Bytes.{by_bytes}
use Rattle.ks_def_runs.specs.Table.{write}
use Rattle.ks_query.specs.Query.{map_values}
use Rattle.ks_query.specs.Aggregates.{agg_row}
use Rattle.ks_oracle.proofs.aggregates.shown.Given as goal

abbrev pub invariant-loop-rest : goal.invariant-loop-rest
invariant-loop-rest l = fold (λ n e. write by_bytes n e.0 (Some (agg_row l.count e.1))) l.rows l.rest ≡ map_values (λ a. Some (agg_row l.count a)) l.groups

abbrev pub decreases-loop-rest : goal.decreases-loop-rest
decreases-loop-rest l = length l.rest
