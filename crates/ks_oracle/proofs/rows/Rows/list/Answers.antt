use Rattle.std.proofs.Common.{◌≡◌, ℕ, List, ap, sym, subst, ◌∙◌}
use Rattle.std.specs.Prelude.{IfOk}
use Rattle.ks_def_runs.specs.Bytes.{by_bytes}
use Rattle.std.specs.Cmp.Lexicographic.{nat_list_cmp_total}
use Rattle.ks_expr.specs.Eval.{Row}
use Rattle.ks_def_runs.specs.FinMap as fin
use Rattle.ks_def_runs.specs.FinMap.{FinMap}
use Rattle.ks_oracle.proofs.Trees.{map_entries}
use Rattle.ks_oracle.proofs.rows.Rows.list.Goals as goal

pub returns : goal.returns
returns c =
    let e = sym (map_entries by_bytes nat_list_cmp_total c.self.inside.tree.entries c.self.invariant) ∙ ap (λ (m : FinMap by_bytes Row). fin.entries m) c.self.view_is in
    subst (λ (es : List (List ℕ × Row)). IfOk c.copy_rows.result (λ v. v.items ≡ es)) e c.copy_rows.ensures
