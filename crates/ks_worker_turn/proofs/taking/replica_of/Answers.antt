use Rattle.std.proofs.Common.{sym, subst, refl}
use Rattle.ks_topo.specs.Topologies.{draft_of}
use Rattle.ks_worker_state.specs.Worker.{IsWorker}
use Rattle.ks_worker_state.proofs.Workers.{worker_later}
use Rattle.ks_worker_turn.proofs.Placed.{where_ok, without_one, its_standby, none_said}
use Rattle.std.proofs.lemmas.Result.{on_ok_weaker}
use Rattle.ks_worker_client.proofs.Moments.{not_later}
use Rattle.ks_worker_turn.proofs.Holding.{without_taken, without_none}
use Rattle.ks_worker_turn.proofs.Requests.{turn_none}
use Rattle.ks_worker_turn.proofs.taking.replica_of.Goals as goal

pub returns-in-Some-clause-worker : goal.returns-in-Some-clause-worker
returns-in-Some-clause-worker g c =
    let s = c.args.state.now in
    without_one g.W.Work.plan (draft_of c.args.topology.now) s.session.client.pass s.member s.session.last s.session.numbers.items s.tasks.items s.replicas.items c.take_replica.new.replicas.items c.in-Some.replica c.in-Some.ensures.taken c.requires.may.worker

pub returns-in-Some-clause-standby : goal.returns-in-Some-clause-standby
returns-in-Some-clause-standby g c =
    let s = c.args.state.now in
    its_standby g.W.Work.plan (draft_of c.args.topology.now) s.session.client.pass s.member s.session.last s.session.numbers.items s.tasks.items s.replicas.items c.take_replica.new.replicas.items c.in-Some.replica c.in-Some.ensures.taken c.requires.may.worker

pub returns-in-None-clause-worker : goal.returns-in-None-clause-worker
returns-in-None-clause-worker g c =
    let s = c.args.state.now in
    let d = draft_of c.args.topology.now in
    let pass = c.replica_from_shelf.new.client.pass in
    where_ok c.replica_from_shelf.result
    (subst (λ l. IsWorker g.W.Work.plan d pass s.member s.session.last s.session.numbers.items s.tasks.items l) (sym (none_said c.take_replica.result c.in-None.is c.take_replica.ensures.none))
    (worker_later g.W.Work.plan s.session.client.pass pass c.replica_from_shelf.ensures.later c.requires.may.call.network d s.member s.session.last s.session.numbers.items s.tasks.items s.replicas.items c.requires.may.worker))

pub returns-in-Some-clause-made : goal.returns-in-Some-clause-made
returns-in-Some-clause-made g c = turn_none g.W.Work.plan c.args.state.now c.args.state.now (not_later g.W.Work.plan c.args.state.now.session.client.pass c.requires.may.call.history) refl

pub returns-in-Some-clause-without : goal.returns-in-Some-clause-without
returns-in-Some-clause-without g c =
    without_taken c.args.task c.args.state.now.tasks.items c.args.state.now.replicas.items c.take_replica.new.replicas.items c.in-Some.replica c.in-Some.ensures.named c.in-Some.ensures.taken c.requires.may.worker.once

pub returns-in-None-clause-made : goal.returns-in-None-clause-made
returns-in-None-clause-made g c = on_ok_weaker c.replica_from_shelf.result (λ f. f c.args.state.now.member.number) c.replica_from_shelf.ensures.made

pub returns-in-None-clause-without : goal.returns-in-None-clause-without
returns-in-None-clause-without g c =
    where_ok c.replica_from_shelf.result
    (without_none c.args.task c.args.state.now.replicas.items c.take_replica.new.replicas.items (none_said c.take_replica.result c.in-None.is c.take_replica.ensures.absent)
    (none_said c.take_replica.result c.in-None.is c.take_replica.ensures.none))
