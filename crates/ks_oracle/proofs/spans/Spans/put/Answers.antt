use Rattle.std.proofs.Common.{ap, ◌∙◌}
use Rattle.ks_query.specs.Windows.{by_window}
use Rattle.ks_oracle.proofs.Windows.{by_window_total}
use Rattle.ks_wire.specs.declared.values.Agg.{Agg}
use Rattle.ks_def_runs.specs.FinMap as fin
use Rattle.ks_def_runs.specs.FinMap.{FinMap}
use Rattle.ks_oracle.proofs.Trees.{rises, map_insert}
use Rattle.ks_oracle.proofs.spans.Spans.put.Goals as goal

pub invariant_of-self-2 : goal.invariant_of-self-2
invariant_of-self-2 c = rises by_window c.insert.new.self.entries c.in_ok-insert.ensures.ordered

pub returns : goal.returns
returns c =
    map_insert by_window by_window_total c.self.inside.tree.entries c.insert.new.self.entries c.args.window c.args.agg c.self.invariant c.in_ok-insert.ensures.ordered c.in_ok-insert.ensures.entries
    ∙ ap (λ (m : FinMap by_window Agg). fin.insert m c.args.window c.args.agg) c.self.view_is
