use Rattle.std.proofs.Common.{arith}
use Rattle.ks_topo.specs.Topologies.{draft_of}
use Rattle.ks_cluster.specs.View.{setup_of}
use Rattle.ks_audit_commit.proofs.Ordered.{passing_begins, passing_step, passing_halt}
use Rattle.ks_audit_commit.proofs.ordering.pass_all.Goals as goal

pub loop-rest-init : goal.loop-rest-init
loop-rest-init g c =
    passing_begins (draft_of c.args.topology.now) (setup_of g.W.Work.plan c.args.cluster.now) c.args.cluster.now.journal c.args.pending.now c.args.inputs.now c.args.task.now c.requires.inputs c.requires.taking c.requires.order

pub loop-rest-preserved : goal.loop-rest-preserved
loop-rest-preserved g c =
    passing_step (draft_of c.args.topology.now) (setup_of g.W.Work.plan c.args.cluster.now) c.args.cluster.now.journal c.args.pending.now c.loop-rest.rest.now 0 c.in_ok-pass_one.field-0 c.loop-rest.task c.pass_one.new.task
    (omega (arith, c.in-len1-up.len_at_least)) c.loop-rest.invariant c.in_ok-pass_one.ensures c.if-not-branch.false

pub returns-then-not-branch : goal.returns-then-not-branch
returns-then-not-branch g c =
    passing_halt (draft_of c.args.topology.now) (setup_of g.W.Work.plan c.args.cluster.now) c.args.cluster.now.journal c.args.pending.now c.loop-rest.rest.now 0 c.in_ok-pass_one.field-0 c.loop-rest.task c.pass_one.new.task
    (omega (arith, c.in-len1-up.len_at_least)) c.loop-rest.invariant c.in_ok-pass_one.ensures c.if-not-branch.true
