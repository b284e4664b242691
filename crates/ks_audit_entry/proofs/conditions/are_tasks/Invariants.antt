use Rattle.std.proofs.Common.{◌≡◌, ℕ, List, length}
use Rattle.ks_history.specs.Machine.{TaskPlan}
use Rattle.ks_history.specs.History.{are_tasks}
use Rattle.ks_cluster.specs.View.{setup_from}
use Rattle.ks_audit_entry.proofs.conditions.are_tasks.Given as goal

abbrev pub invariant-loop-rest : goal.invariant-loop-rest
invariant-loop-rest l = (plan : TaskPlan) (counts : List ℕ) → are_tasks (setup_from plan counts l.tasks) l.rest ≡ are_tasks (setup_from plan counts l.tasks) l.held

abbrev pub decreases-loop-rest : goal.decreases-loop-rest
decreases-loop-rest l = length l.rest
