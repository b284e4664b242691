use Rattle.std.proofs.Common.{◌≡◌, ◌<◌, true}
use Rattle.ks_assign.specs.Placement.{home, may_run}
use Rattle.ks_assign.proofs.placing.lightest_for.Given as goal

abbrev pub invariant-loop-c : goal.invariant-loop-c
invariant-loop-c l = (may_run l.clients l.held l.most (home l.clients l.best) l.task ≡ true) × (home l.clients l.best < 256)
