use Rattle.std.proofs.Common.{ap, sym, ◌∙◌}
use Rattle.ks_def_runs.specs.Bytes.{by_bytes}
use Rattle.std.specs.Cmp.Lexicographic.{nat_list_cmp_total}
use Rattle.ks_expr.specs.Eval.{Row}
use Rattle.ks_def_runs.specs.FinMap as fin
use Rattle.ks_def_runs.specs.FinMap.{FinMap}
use Rattle.ks_oracle.proofs.Trees.{map_get}
use Rattle.ks_oracle.proofs.rows.Rows.get.Goals as goal

pub returns : goal.returns
returns c =
    (c.get.ensures.value
    ∙ (sym (map_get by_bytes nat_list_cmp_total c.self.inside.tree.entries c.args.key.now c.self.invariant) ∙ ap (λ (m : FinMap by_bytes Row). fin.get m c.args.key.now) c.self.view_is))
