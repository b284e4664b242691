use Rattle.std.proofs.Common.{◌+◌, length, refl, ap, arith}
use Rattle.std.specs.Prelude.{slice_index}
use Rattle.ks_plan.specs.Infos.{drain_numbers}
use Rattle.ks_topo.specs.Topologies.{draft_of, plan_in}
use Rattle.ks_def_tasks.specs.Rules.{rules_of}
use Rattle.ks_settle.specs.Drained.{caches_in}
use Rattle.ks_settle.proofs.Publishing.{still_of_topology, drains_both, drains_most}
use Rattle.ks_settle.proofs.Ordering.{resting_at, draining_on, settled_last}
use Rattle.ks_settle.proofs.draining.TaskManager.drain_all.Goals as goal

pub drain_topic-requires-clause-of : goal.drain_topic-requires-clause-of
drain_topic-requires-clause-of g c κs within =
    still_of_topology g.W.Work.plan (rules_of g.H.Hash128.hash_of) (draft_of c.args.topology.now) c.loop-i.i c.args.cluster.now c.loop-i.cluster c.requires.of c.loop-i.invariant.on

pub drain_topic-requires-clause-resting : goal.drain_topic-requires-clause-resting
drain_topic-requires-clause-resting g c κs within =
    resting_at g.W.Work.plan (rules_of g.H.Hash128.hash_of) (draft_of c.args.topology.now) c.args.cluster.now c.requires.setup c.loop-i.cluster c.loop-i.self.publisher c.loop-i.i (slice_index c.drain_order-order.result.now c.loop-i.i)
    (caches_in c.args.self.now.tasks.items) c.drain_order-order.result.now c.loop-i.self.tasks.items c.loop-i.invariant c.drain_order-order.ensures c.loop-i-test.true refl

pub loop-i-preserved : goal.loop-i-preserved
loop-i-preserved g c =
    draining_on g.W.Work.plan (rules_of g.H.Hash128.hash_of) (draft_of c.args.topology.now) c.args.cluster.now c.requires.setup c.loop-i.cluster c.drain_topic.new.cluster c.loop-i.self.publisher c.drain_topic.new.self.publisher c.loop-i.i
    (slice_index c.drain_order-order.result.now c.loop-i.i) (caches_in c.args.self.now.tasks.items) c.drain_order-order.result.now c.loop-i.self.tasks.items c.drain_topic.new.self.tasks.items c.loop-i.invariant c.drain_order-order.ensures c.loop-i-test.true refl c.in_ok-drain_topic.ensures.rest c.in_ok-drain_topic.ensures.caches c.drain_topic.ensures.on

pub returns-clause-settled : goal.returns-clause-settled
returns-clause-settled g c =
    settled_last g.W.Work.plan (rules_of g.H.Hash128.hash_of) (draft_of c.args.topology.now) c.args.cluster.now c.requires.setup c.loop-i.cluster c.loop-i.self.publisher c.loop-i.i (caches_in c.args.self.now.tasks.items) c.drain_order-order.result.now c.loop-i.self.tasks.items c.loop-i.invariant
    c.drain_order-order.ensures c.loop-i-test.false

pub returns-clause-caches : goal.returns-clause-caches
returns-clause-caches g c = c.loop-i.invariant.caches

pub returns-clause-on : goal.returns-clause-on
returns-clause-on g c =
    drains_most c.loop-i.i (length (drain_numbers (plan_in c.args.topology.now))) c.args.cluster.now c.loop-i.cluster (omega (arith, c.loop-i.invariant.within, ap length c.drain_order-order.ensures)) c.loop-i.invariant.on

pub returns-in_err-drain_topic-clause-on : goal.returns-in_err-drain_topic-clause-on
returns-in_err-drain_topic-clause-on g c =
    drains_most (c.loop-i.i + 1) (length (drain_numbers (plan_in c.args.topology.now))) c.args.cluster.now c.drain_topic.new.cluster (omega (arith, c.loop-i-test.true, ap length c.drain_order-order.ensures))
    (drains_both c.loop-i.i 1 c.args.cluster.now c.loop-i.cluster c.drain_topic.new.cluster c.loop-i.invariant.on c.drain_topic.ensures.on)
