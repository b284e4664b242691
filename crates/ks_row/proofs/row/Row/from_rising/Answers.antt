use Rattle.ks_row.proofs.Kept.{made_row}
use Rattle.ks_row.proofs.row.Row.from_rising.Goals as goal

pub invariant_of-result : goal.invariant_of-result
invariant_of-result c = made_row c.in_ok-spell.field-0 c.args.fields.now c.in_ok-spell.ensures.bytes c.in_ok-spell.ensures.fits
