use Rattle.std.proofs.Common.{◌≡◌, length, arith}
use Rattle.ks_topo.specs.Topologies.{draft_of}
use Rattle.ks_cluster.specs.View.{setup_of}
use Rattle.ks_audit.proofs.Judged.{split_begins, split_here, split_more, split_ends, split_stops}
use Rattle.ks_audit.proofs.commits.judge_tasks.Goals as goal

pub loop-place-init : goal.loop-place-init
loop-place-init g c =
    split_begins (draft_of c.args.topology.now) (setup_of g.W.Work.plan c.args.cluster.now) c.args.cluster.now.journal c.args.open.now c.args.tasks.now.items c.requires.names c.requires.audited

pub judge_task-requires-clause-audited : goal.judge_task-requires-clause-audited
judge_task-requires-clause-audited g c =
    split_here (draft_of c.args.topology.now) (setup_of g.W.Work.plan c.args.cluster.now) c.args.cluster.now.journal c.args.open.now (length c.args.tasks.now.items) c.loop-place.place c.loop-place.tasks.items c.index_mut-task.result.now c.loop-place.invariant
    (omega (arith, c.loop-place-test.true, c.len-count.ensures, c.loop-place.invariant.long)) c.index_mut-task.ensures.value

pub loop-place-preserved : goal.loop-place-preserved
loop-place-preserved g c =
    split_more (draft_of c.args.topology.now) (setup_of g.W.Work.plan c.args.cluster.now) c.args.cluster.now.journal c.args.open.now (length c.args.tasks.now.items) c.loop-place.place c.loop-place.tasks.items c.index_mut-task.result.now c.judge_task.new.task
    c.in_ok-judge_task.field-0 c.loop-place.invariant (omega (arith, c.loop-place-test.true, c.len-count.ensures, c.loop-place.invariant.long)) c.index_mut-task.ensures.value c.in_ok-judge_task.ensures c.if-not-branch.false

pub returns-then-not-branch : goal.returns-then-not-branch
returns-then-not-branch g c =
    split_stops (draft_of c.args.topology.now) (setup_of g.W.Work.plan c.args.cluster.now) c.args.cluster.now.journal c.args.open.now (length c.args.tasks.now.items) c.loop-place.place c.loop-place.tasks.items _ c.index_mut-task.result.now c.judge_task.new.task
    c.id-id.result c.in_ok-judge_task.field-0 c.loop-place.invariant (omega (arith, c.loop-place-test.true, c.len-count.ensures, c.loop-place.invariant.long)) c.index_mut-task.ensures.value c.id-id.ensures c.in_ok-judge_task.ensures c.if-not-branch.true

pub returns : goal.returns
returns g c =
    split_ends (draft_of c.args.topology.now) (setup_of g.W.Work.plan c.args.cluster.now) c.args.cluster.now.journal c.args.open.now (length c.args.tasks.now.items) c.loop-place.place c.loop-place.tasks.items c.loop-place.invariant
    (omega (arith, c.loop-place-test.false, c.len-count.ensures, c.loop-place.invariant.long))
