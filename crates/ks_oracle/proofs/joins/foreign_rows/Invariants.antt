use Rattle.std.proofs.Common.{◌≡◌, Some, fold, length}
use Rattle.ks_def_runs.specs.Bytes.{by_bytes}
use Rattle.ks_def_runs.specs.Table.{write}
use Rattle.ks_query.specs.Query.{foreign_join, right_row}
use Rattle.ks_expr.specs.Eval.{joined}
use Rattle.ks_expr.specs.Keys.{fk_of}
use Rattle.ks_expr.specs.Terms.{set_of}
use Rattle.ks_oracle.proofs.joins.foreign_rows.Given as goal

abbrev pub invariant-loop-rest : goal.invariant-loop-rest
invariant-loop-rest l = fold (λ n e. write by_bytes n e.0 (joined l.kind (set_of l.set) (Some e.1) (right_row l.right (fk_of l.fk e.0 e.1)))) l.joined l.rest ≡ foreign_join l.fk l.kind (set_of l.set) l.left l.right

abbrev pub decreases-loop-rest : goal.decreases-loop-rest
decreases-loop-rest l = length l.rest
