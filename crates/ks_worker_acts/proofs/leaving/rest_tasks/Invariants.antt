use Rattle.std.specs.Vec.Iter.{into_iter_items, into_iter_len}
use Rattle.ks_worker_acts.proofs.Leavers.{HasRested}
use Rattle.ks_worker_acts.proofs.leaving.rest_tasks.Given as goal

-- the tasks so far left their replicas
abbrev pub invariant-loop-task : goal.invariant-loop-task
invariant-loop-task l = HasRested (into_iter_items l.rest) l.fn.tasks.items l.fn.replicas.items l.replicas.items

abbrev pub decreases-loop-task : goal.decreases-loop-task
decreases-loop-task l = into_iter_len l.rest
