use Rattle.std.proofs.Common.{ap, sym, ◌∙◌}
use Rattle.ks_query.specs.Windows.{by_window}
use Rattle.ks_oracle.proofs.Windows.{by_window_total}
use Rattle.ks_wire.specs.declared.values.Agg.{Agg}
use Rattle.ks_def_runs.specs.FinMap as fin
use Rattle.ks_def_runs.specs.FinMap.{FinMap}
use Rattle.ks_oracle.proofs.Trees.{map_get}
use Rattle.ks_oracle.proofs.spans.Spans.get.Goals as goal

pub returns : goal.returns
returns c =
    c.copied.ensures ∙ (c.get.ensures.value
    ∙ (sym (map_get by_window by_window_total c.self.inside.tree.entries c.args.window.now c.self.invariant) ∙ ap (λ (m : FinMap by_window Agg). fin.get m c.args.window.now) c.self.view_is))
