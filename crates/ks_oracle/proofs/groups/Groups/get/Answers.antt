use Rattle.std.proofs.Common.{ap, sym, ◌∙◌}
use Rattle.ks_def_runs.specs.Bytes.{by_bytes}
use Rattle.std.specs.Cmp.Lexicographic.{nat_list_cmp_total}
use Rattle.ks_wire.specs.declared.values.Agg.{Agg}
use Rattle.ks_def_runs.specs.FinMap as fin
use Rattle.ks_def_runs.specs.FinMap.{FinMap}
use Rattle.ks_oracle.proofs.Trees.{map_get}
use Rattle.ks_oracle.proofs.groups.Groups.get.Goals as goal

pub returns : goal.returns
returns c =
    c.copied.ensures ∙ (c.get.ensures.value
    ∙ (sym (map_get by_bytes nat_list_cmp_total c.self.inside.tree.entries c.args.group.now c.self.invariant) ∙ ap (λ (m : FinMap by_bytes Agg). fin.get m c.args.group.now) c.self.view_is))
