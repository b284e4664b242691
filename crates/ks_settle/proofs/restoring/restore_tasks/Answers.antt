use Rattle.std.proofs.Common.{sym, ◌∙◌, arith}
use Rattle.ks_topo.specs.Topologies.{draft_of}
use Rattle.ks_cluster.specs.View.{setup_of}
use Rattle.ks_settle.proofs.Given.{may_begin}
use Rattle.ks_settle.proofs.Putting.{all_there, one_put, all_put}
use Rattle.ks_settle.proofs.restoring.restore_tasks.Goals as goal

pub restore_each-requires-clause-may : goal.restore_each-requires-clause-may
restore_each-requires-clause-may g c κs within = record { may = c.requires.may; of = c.requires.of; parts = c.requires.parts; ready = c.requires.ready }

pub restore_each-requires-clause-there : goal.restore_each-requires-clause-there
restore_each-requires-clause-there g c κs within =
    may_begin g.W.Work.plan c.args.cluster.now c.in_ok-all.all.items c.as_mut_slice-each.result.now
    (all_there c.in_ok-all.all.items c.as_mut_slice-each.result.now c.args.cluster.now.tasks (c.in_ok-all.ensures.names ∙ c.tasks.ensures ∙ sym c.requires.of.tasks) c.as_mut_slice-each.ensures.value)
    c.as_mut_slice-each.ensures.value (c.in_ok-all.ensures.given (setup_of g.W.Work.plan c.args.cluster.now) c.args.cluster.now.journal c.requires.replicas)

pub loop-one-preserved : goal.loop-one-preserved
loop-one-preserved g c =
    one_put (draft_of c.args.topology.now) (setup_of g.W.Work.plan c.args.cluster.now) c.args.cluster.now.journal c.args.cluster.now.tasks c.args.cache c.loop-one.tasks.items c.push.new.self.items c.loop-one.one-iterator.rest.items c.next.new.self.rest.items
    c.in-Some.one c.in_ok-one.field-0 c.loop-one.invariant c.in-Some.ensures.steps.0 c.in_ok-one.was c.in_ok-push.ensures.items

pub loop-one-preserved-in_ok-push : goal.loop-one-preserved-in_ok-push
loop-one-preserved-in_ok-push g c =
    one_put (draft_of c.args.topology.now) (setup_of g.W.Work.plan c.args.cluster.now) c.args.cluster.now.journal c.args.cluster.now.tasks c.args.cache c.loop-one.tasks.items c.push.new.self.items c.loop-one.one-iterator.rest.items c.next.new.self.rest.items
    c.in-Some.one c.in_ok-one.field-0 c.loop-one.invariant c.in-Some.ensures.steps.0 c.in_ok-one.was c.in_ok-push.ensures.items

pub returns : goal.returns
returns g c =
    all_put (draft_of c.args.topology.now) (setup_of g.W.Work.plan c.args.cluster.now) c.args.cluster.now.journal c.args.cluster.now.tasks c.args.cache c.loop-one.tasks.items c.loop-one.one-iterator.rest.items c.loop-one.invariant
    (omega (arith, c.loop-one.one-iterator.rest.ok, c.in-None.ensures.steps.0))
