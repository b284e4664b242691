use Rattle.std.proofs.Common.{◌≡◌, ◌++◌, map, take, drop}
use Rattle.ks_task.specs.Views.{with_committed}
use Rattle.ks_task.proofs.inputs.commit_inputs.Given as goal

abbrev pub invariant-loop-i : goal.invariant-loop-i
invariant-loop-i l = l.inputs.items ≡ map with_committed (take l.i l.initial.inputs.items) ++ drop l.i l.initial.inputs.items
