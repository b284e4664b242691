use Rattle.std.proofs.Common.{◌≡◌, drop}
use Rattle.ks_assign.specs.Lag.{warm}
use Rattle.ks_assign.proofs.lags.is_warm.Given as goal

abbrev pub invariant-loop-h : goal.invariant-loop-h
invariant-loop-h l = warm (drop l.h-index l.held) l.most l.instance l.task ≡ warm l.held l.most l.instance l.task
