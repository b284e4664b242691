use Rattle.ks_topo.specs.Topologies.{draft_of}
use Rattle.ks_worker_state.proofs.Workers.{worker_later}
use Rattle.ks_worker_turn.proofs.Placed.{where_ok, without_one, its_standby, ok_then, none_said}
use Rattle.std.proofs.Common.{refl}
use Rattle.std.proofs.lemmas.Bool.{eq-eqb}
use Rattle.ks_history.specs.declared.journal.Request.TheVariants.{Park}
use Rattle.ks_history.specs.declared.journal.Reply.TheVariants.{Done}
use Rattle.ks_worker_state.proofs.Gains.{only_one}
use Rattle.ks_worker_client.proofs.Moments.{not_later}
use Rattle.ks_worker_turn.specs.Requests.{is_of_turn}
use Rattle.ks_worker_turn.proofs.Holding.{parked_one, parked_none}
use Rattle.ks_worker_turn.proofs.Requests.{turn_none}
use Rattle.ks_worker_turn.proofs.parking.park_replica.Goals as goal

pub park-requires-clause-task : goal.park-requires-clause-task
park-requires-clause-task g c =
    let s = c.args.state.now in
    (its_standby g.W.Work.plan (draft_of c.args.topology.now) s.session.client.pass s.member s.session.last s.session.numbers.items s.tasks.items s.replicas.items c.take_replica.new.replicas.items c.in-Some.replica c.in-Some.ensures.taken c.requires.worker).known

pub park-requires-clause-follows : goal.park-requires-clause-follows
park-requires-clause-follows g c =
    let s = c.args.state.now in
    (its_standby g.W.Work.plan (draft_of c.args.topology.now) s.session.client.pass s.member s.session.last s.session.numbers.items s.tasks.items s.replicas.items c.take_replica.new.replicas.items c.in-Some.replica c.in-Some.ensures.taken c.requires.worker).replica

pub returns-clause-worker : goal.returns-clause-worker
returns-clause-worker g c =
    let s = c.args.state.now in
    let d = draft_of c.args.topology.now in
    where_ok c.park.result
    (worker_later g.W.Work.plan s.session.client.pass c.park.new.self.pass c.park.ensures.later c.requires.call.network d s.member s.session.last s.session.numbers.items s.tasks.items c.take_replica.new.replicas.items
    (without_one g.W.Work.plan d s.session.client.pass s.member s.session.last s.session.numbers.items s.tasks.items s.replicas.items c.take_replica.new.replicas.items c.in-Some.replica c.in-Some.ensures.taken c.requires.worker))

pub returns-clause-made : goal.returns-clause-made
returns-clause-made g c =
    let m = c.args.state.now.member in
    ok_then c.park.result _
    (λ u wrote. only_one g.W.Work.plan (is_of_turn m.number m.instance) c.args.state.now.session.client.pass c.park.new.self.pass (Park m.instance c.in-Some.replica.id) Done (eq-eqb m.instance m.instance refl) wrote)
    c.park.ensures.wrote

pub returns-clause-parked : goal.returns-clause-parked
returns-clause-parked g c =
    let s = c.args.state.now in
    ok_then c.park.result _
    (λ u wrote. parked_one g.W.Work.plan s.member.instance c.args.task s.tasks.items c.in-Some.replica Done s.session.client.pass c.park.new.self.pass s.replicas.items c.take_replica.new.replicas.items
    c.in-Some.ensures.named c.in-Some.ensures.taken c.requires.worker.once wrote)
    c.park.ensures.wrote

pub returns-in_default-clause-made : goal.returns-in_default-clause-made
returns-in_default-clause-made g c = turn_none g.W.Work.plan c.args.state.now c.args.state.now (not_later g.W.Work.plan c.args.state.now.session.client.pass c.requires.call.history) refl

pub returns-in_default-clause-parked : goal.returns-in_default-clause-parked
returns-in_default-clause-parked g c =
    let s = c.args.state.now in
    parked_none g.W.Work.plan s.member.instance c.args.task s.session.client.pass s.session.client.pass s.replicas.items c.take_replica.new.replicas.items
    (none_said c.take_replica.result c.in_default.is c.take_replica.ensures.absent) (none_said c.take_replica.result c.in_default.is c.take_replica.ensures.none)
