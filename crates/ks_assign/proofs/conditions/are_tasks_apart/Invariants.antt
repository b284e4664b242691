use Rattle.std.proofs.Common.{◌≡◌, length}
use Rattle.ks_assign.specs.Placement.{tasks_apart}
use Rattle.ks_assign.proofs.conditions.are_tasks_apart.Given as goal

abbrev pub invariant-loop-rest : goal.invariant-loop-rest
invariant-loop-rest l = tasks_apart l.rest ≡ tasks_apart l.tasks

abbrev pub decreases-loop-rest : goal.decreases-loop-rest
decreases-loop-rest l = length l.rest
