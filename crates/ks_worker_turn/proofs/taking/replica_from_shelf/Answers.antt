use Rattle.ks_topo.specs.Topologies.{draft_of}
use Rattle.ks_shared.specs.Calls.{setup_in}
use Rattle.ks_shared.specs.Shelf.{IsReplicaOf}
use Rattle.ks_worker_turn.proofs.Placed.{fresh_ok, fresh_named, parked_standby, some_said, where_ok}
use Rattle.std.proofs.Common.{refl, is_some}
use Rattle.std.proofs.lemmas.Bool.{eq-eqb}
use Rattle.ks_history.specs.declared.journal.Request.TheVariants.{Unpark}
use Rattle.ks_history.specs.declared.journal.Reply.TheVariants.{Truth}
use Rattle.ks_worker_state.proofs.Gains.{only_one}
use Rattle.ks_worker_turn.specs.Requests.{is_of_turn}
use Rattle.ks_worker_turn.proofs.taking.replica_from_shelf.Goals as goal

pub returns-in-Some-clause-standby : goal.returns-in-Some-clause-standby
returns-in-Some-clause-standby g c =
    let setup = setup_in g.W.Work.plan c.args.client.now.pass.frame in
    parked_standby setup c.unpark.new.self.pass.seen c.args.task c.in-Some.replica c.requires.task
    (some_said c.in_ok-parked.parked c.in-Some.replica (IsReplicaOf setup c.unpark.new.self.pass.seen c.args.task) c.in-Some.is c.in_ok-parked.ensures.follows)

pub returns-in-Some-clause-named : goal.returns-in-Some-clause-named
returns-in-Some-clause-named g c =
    let setup = setup_in g.W.Work.plan c.args.client.now.pass.frame in
    (some_said c.in_ok-parked.parked c.in-Some.replica (IsReplicaOf setup c.unpark.new.self.pass.seen c.args.task) c.in-Some.is c.in_ok-parked.ensures.follows).task

pub returns-in-None-clause-standby : goal.returns-in-None-clause-standby
returns-in-None-clause-standby g c =
    fresh_ok c.new.result c.or_halt.result c.or_halt.ensures g.H.Hash128.hash_of (draft_of c.args.topology.now) (setup_in g.W.Work.plan c.args.client.now.pass.frame) c.unpark.new.self.pass.seen c.args.task c.changelogs_in.result.now
    c.requires.topology c.requires.task c.new.ensures.view c.new.ensures.changelogs c.changelogs_in.ensures

pub returns-in-None-clause-named : goal.returns-in-None-clause-named
returns-in-None-clause-named g c = fresh_named c.new.result c.or_halt.result c.or_halt.ensures c.args.task c.new.ensures.view

pub returns-in-Some-clause-made : goal.returns-in-Some-clause-made
returns-in-Some-clause-made g c = λ w.
    only_one g.W.Work.plan (is_of_turn w c.args.instance) c.args.client.now.pass c.unpark.new.self.pass (Unpark c.args.instance c.args.task) (Truth (is_some c.in_ok-parked.parked)) (eq-eqb c.args.instance c.args.instance refl) c.in_ok-parked.ensures.wrote

pub returns-in-None-clause-made : goal.returns-in-None-clause-made
returns-in-None-clause-made g c =
    where_ok c.or_halt.result
    (λ w. only_one g.W.Work.plan (is_of_turn w c.args.instance) c.args.client.now.pass c.unpark.new.self.pass (Unpark c.args.instance c.args.task) (Truth (is_some c.in_ok-parked.parked)) (eq-eqb c.args.instance c.args.instance refl) c.in_ok-parked.ensures.wrote)
