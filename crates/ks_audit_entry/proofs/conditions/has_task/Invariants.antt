use Rattle.std.proofs.Common.{◌≡◌, length}
use Rattle.ks_history.specs.State.{has_task}
use Rattle.ks_audit_entry.proofs.conditions.has_task.Given as goal

abbrev pub invariant-loop-rest : goal.invariant-loop-rest
invariant-loop-rest l = has_task l.task l.rest ≡ has_task l.task l.tasks

abbrev pub decreases-loop-rest : goal.decreases-loop-rest
decreases-loop-rest l = length l.rest
