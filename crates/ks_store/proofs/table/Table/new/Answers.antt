use Rattle.std.proofs.Common.{ap, sym, ◌∙◌}
use Rattle.ks_store.proofs.Tables.{new_table}
use Rattle.ks_store.proofs.table.Table.new.Goals as goal

pub invariant_of-result : goal.invariant_of-result
invariant_of-result c = (
  new_table c.new.result.rows c.with_hasher.result.entries c.new.ensures.rows c.with_hasher.ensures.empty,
  ap (λ h. h.begun.state) c.with_hasher.ensures.hasher ∙ sym c.new.ensures.start,
)
