use Rattle.std.proofs.Common.{arith, ◌∙◌}
use Rattle.ks_task_values.proofs.Compared.{told_by_bytes}
use Rattle.ks_task_values.proofs.changes.is_spelling.Goals as goal

pub returns : goal.returns
returns c = c.are_equal.ensures ∙ told_by_bytes c.args.bytes.now c.args.row.now (λ i. omega (arith, c.type_inv.bytes i)) c.bytes.ensures.fits c.bytes.result.now c.bytes.ensures.bytes
