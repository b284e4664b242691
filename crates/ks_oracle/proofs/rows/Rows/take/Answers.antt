use Rattle.std.proofs.Common.{ap, ◌∙◌}
use Rattle.std.specs.Cmp.Lexicographic.{nat_list_cmp_total}
use Rattle.ks_def_runs.specs.Bytes.{by_bytes}
use Rattle.ks_expr.specs.Eval.{Row}
use Rattle.ks_def_runs.specs.FinMap as fin
use Rattle.ks_def_runs.specs.FinMap.{FinMap}
use Rattle.ks_oracle.proofs.Trees.{rises, map_remove}
use Rattle.ks_oracle.proofs.rows.Rows.take.Goals as goal

pub invariant_of-self : goal.invariant_of-self
invariant_of-self c = rises by_bytes c.remove.new.self.entries c.remove.ensures.ordered

pub returns : goal.returns
returns c =
    map_remove by_bytes nat_list_cmp_total c.self.inside.tree.entries c.remove.new.self.entries c.args.key.now c.self.invariant c.remove.ensures.ordered c.remove.ensures.entries
    ∙ ap (λ (m : FinMap by_bytes Row). fin.remove m c.args.key.now) c.self.view_is
