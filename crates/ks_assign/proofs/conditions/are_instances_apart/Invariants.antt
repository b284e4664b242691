use Rattle.std.proofs.Common.{◌≡◌, length}
use Rattle.ks_assign.specs.Placement.{instances_apart}
use Rattle.ks_assign.proofs.conditions.are_instances_apart.Given as goal

abbrev pub invariant-loop-rest : goal.invariant-loop-rest
invariant-loop-rest l = instances_apart l.rest ≡ instances_apart l.clients

abbrev pub decreases-loop-rest : goal.decreases-loop-rest
decreases-loop-rest l = length l.rest
