use Rattle.std.proofs.Common.{◌≡◌, max, drop}
use Rattle.ks_assign.specs.Lag.{greatest}
use Rattle.ks_assign.proofs.lags.greatest.Given as goal

abbrev pub invariant-loop-position : goal.invariant-loop-position
invariant-loop-position l = max l.found (greatest (drop l.position-index l.positions)) ≡ greatest l.positions
