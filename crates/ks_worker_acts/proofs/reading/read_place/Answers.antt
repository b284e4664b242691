use Rattle.std.proofs.Common.{ap, arith}
use Rattle.ks_plan.specs.Infos.{input_numbers}
use Rattle.ks_topo.specs.Topologies.{draft_of, plan_in}
use Rattle.ks_shared.specs.Calls.{setup_in}
use Rattle.ks_worker_acts.proofs.Looks.{looked_place}
use Rattle.ks_worker_acts.proofs.WorkerOn.{input_within, input_is, read_worker, held_at}
use Rattle.ks_worker_acts.proofs.reading.read_place.Goals as goal

pub index_mut-requires : goal.index_mut-requires
index_mut-requires g c = omega (arith, input_within (input_numbers (plan_in c.args.topology.now)) c.args.state.now.tasks.items c.args.place c.requires.place, c.args.state.now.tasks.ok.0)

pub read_once-requires-clause-task : goal.read_once-requires-clause-task
read_once-requires-clause-task g c =
    held_at (draft_of c.args.topology.now) (setup_in g.W.Work.plan c.args.state.now.session.client.pass.frame) c.args.state.now.session.client.pass.seen c.args.state.now.member c.args.state.now.session.last
    c.args.state.now.tasks.items c.args.place.index c.index_mut.result.now (input_within (input_numbers (plan_in c.args.topology.now)) c.args.state.now.tasks.items c.args.place c.requires.place) c.index_mut.ensures.value c.requires.may.worker.tasks_are

pub read_once-requires-clause-input : goal.read_once-requires-clause-input
read_once-requires-clause-input g c = input_is (input_numbers (plan_in c.args.topology.now)) c.args.state.now.tasks.items c.args.place c.index_mut.result.now c.requires.place c.index_mut.ensures.value

pub returns-clause-worker : goal.returns-clause-worker
returns-clause-worker g c =
    let ts = c.args.state.now.tasks.items in
    let old = c.args.state.now.session.client.pass in
    read_worker g.W.Work.plan old c.read_once.new.session.client.pass c.read_once.ensures.later c.requires.may.call.network (draft_of c.args.topology.now) c.args.state.now.member
    c.args.state.now.session.last c.read_once.new.session.last c.args.state.now.session.numbers.items c.read_once.new.session.numbers.items ts c.args.state.now.replicas.items c.args.place.index c.read_once.new.task
    (looked_place (setup_in g.W.Work.plan old.frame) old.seen c.args.place.index c.args.place.topic c.in_ok-moved.moved ts c.index_mut.result.now c.read_once.new.task
    (input_within (input_numbers (plan_in c.args.topology.now)) ts c.args.place c.requires.place) c.index_mut.ensures.value c.in_ok-moved.ensures.read c.in_ok-moved.ensures.stays).read
    c.in_ok-moved.ensures.task c.read_once.ensures.last (ap (λ v. v.items) c.read_once.ensures.numbers) c.requires.may.worker

pub returns-clause-looked : goal.returns-clause-looked
returns-clause-looked g c =
    looked_place (setup_in g.W.Work.plan c.args.state.now.session.client.pass.frame) c.args.state.now.session.client.pass.seen c.args.place.index c.args.place.topic c.in_ok-moved.moved c.args.state.now.tasks.items c.index_mut.result.now c.read_once.new.task
    (input_within (input_numbers (plan_in c.args.topology.now)) c.args.state.now.tasks.items c.args.place c.requires.place) c.index_mut.ensures.value c.in_ok-moved.ensures.read c.in_ok-moved.ensures.stays
