use Rattle.std.proofs.Common.{◌≡◌, false, take}
use Rattle.ks_history.specs.State.{has_task}
use Rattle.ks_worker_state.specs.Names.{replica_names}
use Rattle.ks_worker_turn.proofs.lists.take_replica.Given as goal

-- nothing was taken, and none so far is of the task
abbrev pub invariant-loop-i : goal.invariant-loop-i
invariant-loop-i l = record {
  same : l.replicas.items ≡ l.fn.replicas.items;
  absent : has_task l.task (replica_names (take l.i l.replicas.items)) ≡ false;
}
