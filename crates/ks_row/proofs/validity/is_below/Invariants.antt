use Rattle.std.proofs.Common.{◌≡◌, length}
use Rattle.ks_row.proofs.Below.{below}
use Rattle.ks_row.proofs.validity.is_below.Given as goal

-- the bytes from here on decide
abbrev pub invariant-loop-right : goal.invariant-loop-right
invariant-loop-right l = below l.left l.right ≡ below l.a l.b

abbrev pub decreases-loop-right : goal.decreases-loop-right
decreases-loop-right l = length l.right
