use Rattle.std.proofs.Common.{◌≡◌, Some, None, fold, length}
use Rattle.ks_def_runs.specs.Bytes.{by_bytes}
use Rattle.ks_def_runs.specs.Table.{write}
use Rattle.ks_query.specs.Query.{map_values}
use Rattle.ks_expr.specs.Eval.{project}
use Rattle.ks_expr.specs.Terms.{set_of}
use Rattle.ks_oracle.proofs.tables.mapped_rows.Given as goal

abbrev pub invariant-loop-rest : goal.invariant-loop-rest
invariant-loop-rest l = fold (λ n e. write by_bytes n e.0 (project (set_of l.set) (Some e.1) None)) l.made l.rest ≡ map_values (λ v. project (set_of l.set) (Some v) None) l.rows

abbrev pub decreases-loop-rest : goal.decreases-loop-rest
decreases-loop-rest l = length l.rest
