use Rattle.std.proofs.Common.{◌≡◌, length}
use Rattle.ks_task.specs.Tasks.{task_view}
use Rattle.ks_audit_commit.specs.Naming.{are_ahead}
use Rattle.ks_audit_commit.proofs.ordering.are_ahead.Given as goal

abbrev pub invariant-loop-rest : goal.invariant-loop-rest
invariant-loop-rest l = are_ahead (task_view l.task).inputs l.rest l.offsets ≡ are_ahead (task_view l.task).inputs l.inputs l.offsets

abbrev pub decreases-loop-rest : goal.decreases-loop-rest
decreases-loop-rest l = length l.rest
