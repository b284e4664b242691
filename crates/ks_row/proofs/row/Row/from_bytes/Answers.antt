use Rattle.std.proofs.Common.{arith, subst, sym, ◌∙◌}
use Rattle.ks_row.proofs.Kept.{IsSpelled, kept_row}
use Rattle.ks_row.proofs.row.Row.from_bytes.Goals as goal

pub invariant_of-result : goal.invariant_of-result
invariant_of-result c = subst IsSpelled (sym c.in_ok-from_slice.ensures) (kept_row c.args.bytes.now (λ i. omega (arith, c.type_inv.bytes i)) (sym c.spells_row.ensures ∙ c.if-spells_row.true))
