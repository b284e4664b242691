use Rattle.ks_topo.specs.Topologies.{draft_of}
use Rattle.ks_shared.specs.Calls.{setup_in}
use Rattle.ks_worker_state.proofs.Restored.{all_changelogs}
use Rattle.ks_worker_acts.proofs.FedReplicas.{fed_at, fed_own, fed_worker, standby_in}
use Rattle.ks_worker_acts.proofs.feeding.feed_place.Goals as goal

pub returns-clause-worker : goal.returns-clause-worker
returns-clause-worker g c =
    fed_worker g.W.Work.plan c.args.state.now.session.client.pass c.feed_once.new.client.pass c.feed_once.ensures.later c.requires.may.call.network (draft_of c.args.topology.now) c.args.state.now.member
    c.args.state.now.session.last c.args.state.now.session.numbers.items c.args.state.now.tasks.items c.args.state.now.replicas.items c.args.index c.index_mut-replica.result.now c.feed_once.new.replica c.requires.index c.index_mut-replica.ensures.value c.in_ok-feed_once.ensures.fed.fed.task
    c.in_ok-feed_once.ensures.fed.standby c.requires.may.worker

pub returns-clause-fed : goal.returns-clause-fed
returns-clause-fed g c =
    let pass = c.args.state.now.session.client.pass in
    let setup = setup_in g.W.Work.plan pass.frame in
    let rs = c.args.state.now.replicas.items in
    fed_at setup pass.seen rs c.args.index c.index_mut-replica.result.now c.feed_once.new.replica c.requires.index c.index_mut-replica.ensures.value
    (fed_own setup pass.seen c.feed_once.new.client.pass.seen c.changelogs_in-changelogs.result.now c.index_mut-replica.result.now c.feed_once.new.replica
    (all_changelogs g.H.Hash128.hash_of (draft_of c.args.topology.now) setup c.requires.may.topology pass.seen c.index_mut-replica.result.now
    (standby_in setup pass.seen rs c.args.index c.index_mut-replica.result.now c.requires.index c.index_mut-replica.ensures.value c.requires.may.worker.replicas_are)
    c.id.result c.changelogs_in-changelogs.result.now c.id.ensures c.changelogs_in-changelogs.ensures)
    c.in_ok-feed_once.ensures.fed)
