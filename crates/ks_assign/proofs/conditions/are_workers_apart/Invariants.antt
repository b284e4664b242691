use Rattle.std.proofs.Common.{◌≡◌, length}
use Rattle.ks_assign.specs.Placement.{workers_apart}
use Rattle.ks_assign.proofs.conditions.are_workers_apart.Given as goal

abbrev pub invariant-loop-rest : goal.invariant-loop-rest
invariant-loop-rest l = workers_apart l.rest ≡ workers_apart l.clients

abbrev pub decreases-loop-rest : goal.decreases-loop-rest
decreases-loop-rest l = length l.rest
