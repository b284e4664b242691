use Rattle.std.proofs.Common.{◌≡◌}
use Rattle.ks_row.specs.Judged.{rest_after}
use Rattle.ks_row.proofs.validity.rest_of.Given as goal

abbrev pub invariant-loop-left : goal.invariant-loop-left
invariant-loop-left l = rest_after l.last l.left l.rest ≡ rest_after l.name l.count l.bytes

abbrev pub decreases-loop-left : goal.decreases-loop-left
decreases-loop-left l = l.left
