use Rattle.std.proofs.Common.{[], refl}
use Rattle.ks_topo.specs.Topologies.{draft_of}
use Rattle.ks_shared.specs.Calls.{setup_in}
use Rattle.ks_worker_state.proofs.Workers.{worker_later}
use Rattle.ks_worker_acts.specs.Feeds.{marks_of}
use Rattle.ks_worker_acts.proofs.FedReplicas.{fed_names}
use Rattle.ks_worker_state.proofs.Gains.{made_none, made_then}
use Rattle.ks_worker_acts.proofs.StatesOn.{net_later}
use Rattle.std.proofs.lemmas.Result.{IfOk-weaker, IfOk-from_err}
use Rattle.ks_worker_client.proofs.Halting.{same_counts, counts_on}
use Rattle.ks_worker_client.proofs.Moments.{may_later, later_twice}
use Rattle.ks_worker_state.proofs.Exits.{counts_out}
use Rattle.ks_worker_acts.proofs.feeding.pump.Goals as goal

pub write_waiting-requires : goal.write_waiting-requires
write_waiting-requires g c = record { may = may_later g.W.Work.plan _ _ _ _ _ c.feed_all.ensures.later.later (same_counts _ _ c.feed_all.result _ c.in_ok-feed_all.was c.feed_all.ensures.gate) c.requires.may.call }

pub returns-in_err-feed_all-clause-gate : goal.returns-in_err-feed_all-clause-gate
returns-in_err-feed_all-clause-gate g c = counts_out _ _ _ c.feed_all.result c.from_residual.result c.in_err-feed_all.field-0.0 refl c.in_err-feed_all.was c.feed_all.ensures.gate c.from_residual.ensures.1

pub returns-in_err-feed_all-clause-worker : goal.returns-in_err-feed_all-clause-worker
returns-in_err-feed_all-clause-worker g c = IfOk-from_err c.from_residual.result _ c.from_residual.ensures.0

pub returns-in_err-feed_all-clause-names : goal.returns-in_err-feed_all-clause-names
returns-in_err-feed_all-clause-names g c = IfOk-from_err c.from_residual.result _ c.from_residual.ensures.0

pub returns-in_err-feed_all-clause-fed : goal.returns-in_err-feed_all-clause-fed
returns-in_err-feed_all-clause-fed g c = IfOk-from_err c.from_residual.result _ c.from_residual.ensures.0

pub returns-in_err-feed_all-clause-marked : goal.returns-in_err-feed_all-clause-marked
returns-in_err-feed_all-clause-marked g c = IfOk-from_err c.from_residual.result _ c.from_residual.ensures.0

pub returns-clause-gate : goal.returns-clause-gate
returns-clause-gate g c = counts_on _ _ _ c.write_waiting.result (same_counts _ _ c.feed_all.result _ c.in_ok-feed_all.was c.feed_all.ensures.gate) c.write_waiting.ensures.gate

pub returns-clause-later : goal.returns-clause-later
returns-clause-later g c = record {
  later = later_twice g.W.Work.plan _ _ _ c.feed_all.ensures.later.later c.write_waiting.ensures.later;
  number = c.feed_all.ensures.later.number;
  instance = c.feed_all.ensures.later.instance;
  cache = c.feed_all.ensures.later.cache;
}

pub returns-clause-same : goal.returns-clause-same
returns-clause-same g c = record {
  member = c.feed_all.ensures.same.member;
  last = c.feed_all.ensures.same.last;
  numbers = c.feed_all.ensures.same.numbers;
}

pub returns-clause-worker : goal.returns-clause-worker
returns-clause-worker g c =
    IfOk-weaker c.write_waiting.result _ _ (λ _ marked. worker_later g.W.Work.plan c.feed_all.new.state.session.client.pass c.write_waiting.new.client.pass c.write_waiting.ensures.later
    (net_later g.W.Work.plan c.args.state.now.session.client.pass c.feed_all.new.state.session.client.pass c.feed_all.ensures.later.later c.requires.may.call.network)
    (draft_of c.args.topology.now) _ _ _ _ _ c.in_ok-feed_all.ensures.worker)
    c.write_waiting.ensures.marked

pub returns-clause-names : goal.returns-clause-names
returns-clause-names g c =
    IfOk-weaker c.write_waiting.result _ _ (λ _ marked. fed_names (setup_in g.W.Work.plan c.args.state.now.session.client.pass.frame) c.args.state.now.session.client.pass.seen c.args.state.now.replicas.items c.feed_all.new.state.replicas.items c.in_ok-feed_all.ensures.fed)
    c.write_waiting.ensures.marked

pub returns-clause-fed : goal.returns-clause-fed
returns-clause-fed g c = IfOk-weaker c.write_waiting.result _ _ (λ _ marked. c.in_ok-feed_all.ensures.fed) c.write_waiting.ensures.marked

pub returns-clause-marked : goal.returns-clause-marked
returns-clause-marked g c =
    IfOk-weaker c.write_waiting.result _ _ (λ _ marked. made_then c.args.state.now.session.client.pass c.feed_all.new.state.session.client.pass c.write_waiting.new.client.pass [] (marks_of c.args.waiting)
    (made_none g.W.Work.plan c.args.state.now.session.client.pass c.feed_all.new.state.session.client.pass c.feed_all.ensures.later.later c.feed_all.ensures.made) marked)
    c.write_waiting.ensures.marked
