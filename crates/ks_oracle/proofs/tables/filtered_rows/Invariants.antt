use Rattle.std.proofs.Common.{◌≡◌, Some, None, cond, fold, length}
use Rattle.ks_def_runs.specs.Bytes.{by_bytes}
use Rattle.ks_def_runs.specs.Table.{write}
use Rattle.ks_query.specs.Query.{map_values}
use Rattle.ks_expr.specs.Eval.{holds}
use Rattle.ks_expr.specs.Terms.{test_of}
use Rattle.ks_oracle.proofs.tables.filtered_rows.Given as goal

abbrev pub invariant-loop-rest : goal.invariant-loop-rest
invariant-loop-rest l = fold (λ n e. write by_bytes n e.0 (cond (holds (test_of l.test) e.1) (Some e.1) None)) l.kept l.rest ≡ map_values (λ v. cond (holds (test_of l.test) v) (Some v) None) l.rows

abbrev pub decreases-loop-rest : goal.decreases-loop-rest
decreases-loop-rest l = length l.rest
