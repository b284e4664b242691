use Rattle.std.proofs.Common.{ap, ◌∙◌}
use Rattle.ks_def_runs.specs.Bytes.{by_bytes}
use Rattle.std.specs.Cmp.Lexicographic.{nat_list_cmp_total}
use Rattle.ks_wire.specs.declared.values.Agg.{Agg}
use Rattle.ks_def_runs.specs.FinMap as fin
use Rattle.ks_def_runs.specs.FinMap.{FinMap}
use Rattle.ks_oracle.proofs.Trees.{rises, map_insert}
use Rattle.ks_oracle.proofs.groups.Groups.put.Goals as goal

pub invariant_of-self-2 : goal.invariant_of-self-2
invariant_of-self-2 c = rises by_bytes c.insert.new.self.entries c.in_ok-insert.ensures.ordered

pub returns : goal.returns
returns c =
    map_insert by_bytes nat_list_cmp_total c.self.inside.tree.entries c.insert.new.self.entries c.args.group c.args.agg c.self.invariant c.in_ok-insert.ensures.ordered c.in_ok-insert.ensures.entries
    ∙ ap (λ (m : FinMap by_bytes Agg). fin.insert m c.args.group c.args.agg) c.self.view_is
