use Rattle.std.proofs.Common.{◌∙◌, ap, arith}
use Rattle.ks_topo.specs.Topologies.{draft_of}
use Rattle.ks_cluster.specs.View.{setup_of}
use Rattle.ks_commit.specs.Committed.{works_of}
use Rattle.ks_settle.specs.Drained.{caches_in}
use Rattle.ks_settle.proofs.Beside.{all_rest, one_put, all_put, all_cached}
use Rattle.ks_settle.proofs.draining.read_tasks.Goals as goal

pub read_each-requires-clause-rests : goal.read_each-requires-clause-rests
read_each-requires-clause-rests g c κs within =
    all_rest (draft_of c.args.topology.now) (setup_of g.W.Work.plan c.args.cluster.now) c.args.cluster.now.journal c.args.topic c.in_ok-attempts.attempts.items c.as_mut_slice-each.result.now c.args.tasks.now.items c.requires.reading
    (c.in_ok-attempts.ensures ∙ ap (λ (v : _). v.items) c.replace-all.ensures.value) c.as_mut_slice-each.ensures.value

pub loop-attempt-preserved : goal.loop-attempt-preserved
loop-attempt-preserved g c =
    one_put (draft_of c.args.topology.now) (setup_of g.W.Work.plan c.args.cluster.now) c.args.cluster.now.journal c.args.topic (caches_in c.args.tasks.now.items) c.loop-attempt.tasks.items c.push.new.self.items c.loop-attempt.attempt-iterator.rest.items c.next.new.self.rest.items
    c.in-Some.attempt c.in_ok-attempt.field-0 (works_of c.loop-attempt.works.items) (works_of c.keep.new.works.items) c.requires.may.of.may.made.once c.loop-attempt.invariant c.in-Some.ensures.steps.0 c.in_ok-attempt.was c.in_ok-push.ensures.items c.in_ok-keep.ensures

pub returns-clause-reading : goal.returns-clause-reading
returns-clause-reading g c =
    all_put (draft_of c.args.topology.now) (setup_of g.W.Work.plan c.args.cluster.now) c.args.cluster.now.journal c.args.topic (caches_in c.args.tasks.now.items) c.loop-attempt.tasks.items c.loop-attempt.attempt-iterator.rest.items (works_of c.loop-attempt.works.items) c.loop-attempt.invariant
    (omega (arith, c.loop-attempt.attempt-iterator.rest.ok, c.in-None.ensures.steps.0))

pub returns-clause-caches : goal.returns-clause-caches
returns-clause-caches g c =
    all_cached (draft_of c.args.topology.now) (setup_of g.W.Work.plan c.args.cluster.now) c.args.cluster.now.journal c.args.topic (caches_in c.args.tasks.now.items) c.loop-attempt.tasks.items c.loop-attempt.attempt-iterator.rest.items (works_of c.loop-attempt.works.items) c.loop-attempt.invariant
    (omega (arith, c.loop-attempt.attempt-iterator.rest.ok, c.in-None.ensures.steps.0))
