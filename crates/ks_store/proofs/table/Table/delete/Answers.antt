use Rattle.std.proofs.Common.{ap, sym, ◌∙◌}
use Rattle.ks_def_runs.specs.Bytes.{Store}
use Rattle.ks_def_runs.specs.FinMap as fin
use Rattle.ks_store.specs.Groups.{groups_of}
use Rattle.ks_store.proofs.Tables.{store_in, take_row, take_table}
use Rattle.ks_store.proofs.table.Table.delete.Goals as goal

pub returns-clause-gone : goal.returns-clause-gone
returns-clause-gone c =
    take_row c.self.inside.rows.rows c.take_row.new.rows.rows c.args.key.now c.take_row.ensures.gone
    ∙ ap (λ (m : Store). fin.remove m c.args.key.now) (ap store_in c.self.view_is)

pub invariant_of-self : goal.invariant_of-self
invariant_of-self c = (
  take_table c.self.inside.rows.rows c.take_row.new.rows.rows (groups_of c.self.inside.groups.entries) (groups_of c.unlist_key.new.groups.entries) c.args.key.now
      c.take_row.ensures.gone c.take_row.ensures.len c.unlist_key.ensures.groups c.unlist_key.ensures.gone c.self.invariant.0,
  c.unlist_key.ensures.start ∙ (c.self.invariant.1 ∙ sym c.take_row.ensures.start),
)
