use Rattle.std.proofs.Common.{◌≡◌, drop}
use Rattle.ks_assign.specs.Lag.{some_warm}
use Rattle.ks_assign.proofs.lags.is_some_warm.Given as goal

abbrev pub invariant-loop-c : goal.invariant-loop-c
invariant-loop-c l = some_warm (drop l.c-index l.clients) l.held l.most l.task ≡ some_warm l.clients l.held l.most l.task
