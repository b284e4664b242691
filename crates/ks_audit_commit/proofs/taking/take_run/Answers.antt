use Rattle.ks_topo.specs.Topologies.{draft_of}
use Rattle.ks_cluster.specs.View.{setup_of}
use Rattle.ks_law_audit.specs.Rested.{run_onto}
use Rattle.ks_task.specs.Tasks.{task_view}
use Rattle.ks_audit_commit.proofs.Runs.{run_goes_on}
use Rattle.ks_audit_commit.proofs.taking.take_run.Goals as goal

pub loop-left-preserved : goal.loop-left-preserved
loop-left-preserved g c =
    run_goes_on (draft_of c.args.topology.now) (setup_of g.W.Work.plan c.args.cluster.now) c.args.cluster.now.journal c.args.topic c.args.upto (run_onto c.args.topic c.args.count (task_view c.args.task.now).order)
    c.args.task.now c.loop-left.task c.take_one.new.task c.loop-left.left c.in_ok-take_one.field-0 c.loop-left-test.true c.loop-left.invariant c.in_ok-take_one.ensures c.if-not-branch.false
