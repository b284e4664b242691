use Rattle.std.proofs.Common.{subst, sym, arith}
use Rattle.ks_topo.specs.Topologies.{draft_of}
use Rattle.ks_cluster.specs.View.{setup_of}
use Rattle.ks_audit_commit.specs.Judging.{HasOrder}
use Rattle.ks_audit_commit.proofs.Ordered.{order_begins, order_step, order_halt}
use Rattle.ks_audit_commit.proofs.ordering.take_order.Goals as goal

pub loop-rest-init : goal.loop-rest-init
loop-rest-init g c =
    let d = draft_of c.args.topology.now in
    let setup = setup_of g.W.Work.plan c.args.cluster.now in
    subst (λ rest. HasOrder d setup c.args.cluster.now.journal c.args.pending.now rest c.args.task.now) (sym c.as_slice-rest.ensures)
    (order_begins d setup c.args.cluster.now.journal c.args.pending.now c.args.task.now c.requires.taking c.requires.fresh)

pub loop-rest-preserved : goal.loop-rest-preserved
loop-rest-preserved g c =
    order_step (draft_of c.args.topology.now) (setup_of g.W.Work.plan c.args.cluster.now) c.args.cluster.now.journal c.args.pending.now c.loop-rest.rest.now (0, 0) c.in_ok-take_named.field-0 c.loop-rest.task c.take_named.new.task
    (omega (arith, c.in-len1-up.len_at_least)) c.loop-rest.invariant c.in_ok-take_named.ensures c.if-not-branch.false

pub returns-then-not-branch : goal.returns-then-not-branch
returns-then-not-branch g c =
    order_halt (draft_of c.args.topology.now) (setup_of g.W.Work.plan c.args.cluster.now) c.args.cluster.now.journal c.args.pending.now c.loop-rest.rest.now (0, 0) c.in_ok-take_named.field-0 c.loop-rest.task c.take_named.new.task
    (omega (arith, c.in-len1-up.len_at_least)) c.loop-rest.invariant c.in_ok-take_named.ensures c.if-not-branch.true
