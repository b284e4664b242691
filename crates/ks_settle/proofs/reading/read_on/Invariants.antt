use Rattle.std.proofs.Common.{◌-◌}
use Rattle.ks_history.specs.Machine.{part_of}
use Rattle.ks_history.specs.Reads.{end_of}
use Rattle.ks_cluster.specs.View.{setup_of, state_of}
use Rattle.ks_topo.specs.Topologies.{draft_of}
use Rattle.ks_task.specs.Tasks.{task_view}
use Rattle.ks_settle.proofs.Taking.{Reading}
use Rattle.ks_settle.proofs.reading.read_on.Given as goal

-- how far the task has come
abbrev pub invariant-loop-moved : goal.invariant-loop-moved
invariant-loop-moved g l = Reading (draft_of l.topology) (setup_of g.W.Work.plan l.cluster) l.cluster.journal l.topic l.moved l.fn.task l.task

abbrev pub decreases-loop-moved : goal.decreases-loop-moved
decreases-loop-moved g l = end_of (state_of g.W.Work.plan l.cluster) (part_of l.topic (task_view l.task).task) - (task_view l.task).inputs l.topic
