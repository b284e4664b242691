use Rattle.std.proofs.Common.{◌≡◌, true, List, map, ap, sym, subst, ◌∙◌}
use Rattle.std.specs.Prelude.{IfOk}
use Rattle.ks_def_runs.specs.FinMap as fin
use Rattle.ks_expr.specs.Eval.{Row}
use Rattle.ks_query.specs.Windows.{WindowKey, by_window}
use Rattle.ks_query.specs.Query.{WindowTable}
use Rattle.ks_query.specs.Aggregates.{agg_row}
use Rattle.ks_query.specs.Printed.{window_row}
use Rattle.ks_query.specs.declared.table.TableRow.{TableRow}
use Rattle.ks_oracle.proofs.Trees.{entries-turned}
use Rattle.ks_oracle.proofs.Windows.{by_window_total}
use Rattle.ks_oracle.proofs.printing.counted_rows.Goals as goal

pub returns : goal.returns
returns c =
    let e = ap (λ (es : List (WindowKey × Row)). map window_row es) (sym (entries-turned by_window by_window_total (agg_row true) c.spans_at.result.now))
    ∙ ap (λ (m : WindowTable). map window_row (fin.entries m)) c.spans_at.ensures in
    subst (λ (rs : List TableRow). IfOk c.window_rows.result (λ v. v.items ≡ rs)) e c.window_rows.ensures
