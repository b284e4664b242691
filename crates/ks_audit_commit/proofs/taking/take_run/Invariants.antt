use Rattle.ks_topo.specs.Topologies.{draft_of}
use Rattle.ks_cluster.specs.View.{setup_of}
use Rattle.ks_law_audit.specs.Rested.{run_onto}
use Rattle.ks_task.specs.Tasks.{task_view}
use Rattle.ks_audit_commit.specs.Taking.{HasRun}
use Rattle.ks_audit_commit.proofs.taking.take_run.Given as goal

abbrev pub invariant-loop-left : goal.invariant-loop-left
invariant-loop-left g l =
    HasRun (draft_of l.topology) (setup_of g.W.Work.plan l.cluster) l.cluster.journal l.topic l.upto (run_onto l.topic l.count (task_view l.fn.task).order) l.left l.fn.task l.task

abbrev pub decreases-loop-left : goal.decreases-loop-left
decreases-loop-left g l = l.left
