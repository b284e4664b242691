use Rattle.std.proofs.Common.{◌≡◌, fold, map, length}
use Rattle.ks_def_runs.specs.Bytes.{by_bytes}
use Rattle.ks_def_runs.specs.FinMap as fin
use Rattle.ks_def_runs.specs.Table.{write}
use Rattle.ks_expr.specs.Eval.{joined}
use Rattle.ks_expr.specs.Terms.{set_of}
use Rattle.ks_oracle.proofs.joins.join_keys.Given as goal

abbrev pub invariant-loop-rest : goal.invariant-loop-rest
invariant-loop-rest l = fold (λ t k. write by_bytes t k (joined l.kind (set_of l.set) (fin.get l.left k) (fin.get l.right k))) l.joined (map (λ e. e.0) l.rest) ≡ fold (λ t k. write by_bytes t k (joined l.kind (set_of l.set) (fin.get l.left k) (fin.get l.right k))) l.initial.joined (map (λ e. e.0) l.entries)

abbrev pub decreases-loop-rest : goal.decreases-loop-rest
decreases-loop-rest l = length l.rest
