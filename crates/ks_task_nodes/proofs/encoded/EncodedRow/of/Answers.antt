use Rattle.std.proofs.Common.{arith, sym, ◌∙◌}
use Rattle.ks_task_nodes.proofs.Spellings.{row_spelled}
use Rattle.ks_task_nodes.proofs.encoded.EncodedRow.of.Goals as goal

pub invariant_of-result : goal.invariant_of-result
invariant_of-result c = row_spelled c.args.bytes.now (λ i. omega (arith, c.type_inv.bytes i)) (sym c.spells_row.ensures ∙ c.if-spells_row.true)
