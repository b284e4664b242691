use Rattle.std.proofs.Common.{arith, sym, ◌∙◌}
use Rattle.ks_row.proofs.Below.{end_below}
use Rattle.ks_row.proofs.validity.is_below.Goals as goal

pub returns : goal.returns
returns c = sym (end_below c.loop-right.left.now c.loop-right.right.now (omega (arith, c.in_default.len_below))) ∙ c.loop-right.invariant
