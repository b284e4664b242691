use Rattle.std.proofs.Common.{◌≡◌, ◌++◌, drop}
use Rattle.ks_assign_group.specs.Groups.{positions_in}
use Rattle.ks_assign_group.proofs.lags.positions_in.Given as goal

abbrev pub invariant-loop-place : goal.invariant-loop-place
invariant-loop-place l = l.found.items ++ positions_in l.workers l.task (drop l.place-index l.held) ≡ positions_in l.workers l.task l.held
