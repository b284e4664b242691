use Rattle.std.proofs.Common.{◌≡◌, length}
use Rattle.ks_task.specs.Views.{are_committed}
use Rattle.ks_task.proofs.inputs.are_all_committed.Given as goal

abbrev pub invariant-loop-rest : goal.invariant-loop-rest
invariant-loop-rest l = are_committed l.inputs l.rest ≡ are_committed l.inputs l.inputs

abbrev pub decreases-loop-rest : goal.decreases-loop-rest
decreases-loop-rest l = length l.rest
