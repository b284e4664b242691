use Rattle.std.proofs.Common.{◌≡◌, List, ap, sym, subst, ◌∙◌}
use Rattle.std.specs.Prelude.{IfOk}
use Rattle.ks_query.specs.Windows.{WindowKey, by_window}
use Rattle.ks_oracle.proofs.Windows.{by_window_total}
use Rattle.ks_wire.specs.declared.values.Agg.{Agg}
use Rattle.ks_def_runs.specs.FinMap as fin
use Rattle.ks_def_runs.specs.FinMap.{FinMap}
use Rattle.ks_oracle.proofs.Trees.{map_entries}
use Rattle.ks_oracle.proofs.spans.Spans.list.Goals as goal

pub returns : goal.returns
returns c =
    let e = sym (map_entries by_window by_window_total c.self.inside.tree.entries c.self.invariant) ∙ ap (λ (m : FinMap by_window Agg). fin.entries m) c.self.view_is in
    subst (λ (es : List (WindowKey × Agg)). IfOk c.copy_spans.result (λ v. v.items ≡ es)) e c.copy_spans.ensures
