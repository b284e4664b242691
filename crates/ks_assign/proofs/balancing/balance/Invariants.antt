use Rattle.std.proofs.Common.{List}
use Rattle.ks_record.specs.declared.record.TaskId.{TaskId}
use Rattle.ks_assign.specs.Placement.{by_client}
use Rattle.ks_assign.specs.Steps.{IsPlan, pairs}
use Rattle.ks_assign.proofs.balancing.balance.Given as goal

abbrev pub invariant-loop-i : goal.invariant-loop-i
invariant-loop-i l = (tasks : List TaskId) → IsPlan tasks l.clients l.held l.most l.fn.active → IsPlan tasks l.clients l.held l.most l.active

abbrev pub decreases-loop-i : goal.decreases-loop-i
decreases-loop-i l = pairs (by_client l.clients l.active)
