use Rattle.std.proofs.Common.{◌≡◌, take}
use Rattle.ks_assign.specs.Lag.{offset_sum}
use Rattle.ks_assign.proofs.lags.offset_sum.Given as goal

abbrev pub invariant-loop-offset : goal.invariant-loop-offset
invariant-loop-offset l = l.sum ≡ offset_sum (take l.offset-index l.offsets)
