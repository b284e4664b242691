use Rattle.std.proofs.Common.{◌≡◌, ℕ, List, ap, sym, subst, ◌∙◌}
use Rattle.std.specs.Prelude.{IfOk}
use Rattle.ks_def_runs.specs.Bytes.{by_bytes}
use Rattle.std.specs.Cmp.Lexicographic.{nat_list_cmp_total}
use Rattle.ks_wire.specs.declared.values.Agg.{Agg}
use Rattle.ks_def_runs.specs.FinMap as fin
use Rattle.ks_def_runs.specs.FinMap.{FinMap}
use Rattle.ks_oracle.proofs.Trees.{map_entries}
use Rattle.ks_oracle.proofs.groups.Groups.list.Goals as goal

pub returns : goal.returns
returns c =
    let e = sym (map_entries by_bytes nat_list_cmp_total c.self.inside.tree.entries c.self.invariant) ∙ ap (λ (m : FinMap by_bytes Agg). fin.entries m) c.self.view_is in
    subst (λ (es : List (List ℕ × Agg)). IfOk c.copy_groups.result (λ v. v.items ≡ es)) e c.copy_groups.ensures
