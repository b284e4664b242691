use Rattle.std.proofs.Common.{◌≡◌, length}
use Rattle.ks_task.specs.Views.{committed_in}
use Rattle.ks_task.proofs.inputs.committed_of.Given as goal

abbrev pub invariant-loop-rest : goal.invariant-loop-rest
invariant-loop-rest l = committed_in l.rest l.topic ≡ committed_in l.inputs l.topic

abbrev pub decreases-loop-rest : goal.decreases-loop-rest
decreases-loop-rest l = length l.rest
