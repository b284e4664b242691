use Rattle.std.proofs.Common.{◌≡◌, drop}
use Rattle.ks_assign.specs.Placement.{has_task}
use Rattle.ks_assign.proofs.counting.is_known.Given as goal

abbrev pub invariant-loop-u : goal.invariant-loop-u
invariant-loop-u l = has_task l.task (drop l.u-index l.tasks) ≡ has_task l.task l.tasks
