use Rattle.std.proofs.Common.{◌∙◌, sym}
use Rattle.ks_row.proofs.Judged.{goes_on}
use Rattle.ks_row.proofs.validity.rest_of.Goals as goal

pub loop-left-preserved : goal.loop-left-preserved
loop-left-preserved c = goes_on c.loop-left.last.now c.loop-left.left c.loop-left.rest.now c.in_ok-next.next.now c.in_ok-next.after.now _ c.loop-left-test.true c.in_ok-next.ensures (sym c.is_below.ensures ∙ c.if-not-is_below.false) c.loop-left.invariant
