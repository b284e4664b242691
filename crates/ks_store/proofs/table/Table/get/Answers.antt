use Rattle.std.proofs.Common.{ap, sym, ◌∙◌}
use Rattle.ks_def_runs.specs.Bytes.{Store}
use Rattle.ks_def_runs.specs.FinMap as fin
use Rattle.ks_store.proofs.Tables.{store_in, get_row}
use Rattle.ks_store.proofs.table.Table.get.Goals as goal

pub returns : goal.returns
returns c = c.row_at.ensures ∙ (sym (get_row c.self.inside.rows.rows c.args.key.now) ∙ ap (λ (m : Store). fin.get m c.args.key.now) (ap store_in c.self.view_is))
