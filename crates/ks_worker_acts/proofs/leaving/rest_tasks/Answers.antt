use Rattle.std.specs.Vec.Iter.{into_iter_items}
use Rattle.ks_worker_acts.proofs.Leavers.{rested_more}
use Rattle.ks_worker_acts.proofs.leaving.rest_tasks.Goals as goal

pub loop-task-preserved : goal.loop-task-preserved
loop-task-preserved c =
    rested_more c.in-Some.task (into_iter_items c.loop-task.rest) (into_iter_items c.next.new.self) c.args.tasks.items c.args.replicas.now.items c.loop-task.replicas.items c.rest_task.new.replicas.items
    c.in-Some.ensures.items c.loop-task.invariant c.in_ok-rest_task.ensures
