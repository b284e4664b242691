use Rattle.std.proofs.Common.{refl, ◌∙◌, arith}
use Rattle.ks_shared.specs.Calls.{setup_in}
use Rattle.ks_worker_client.proofs.Halting.{same_counts}
use Rattle.ks_worker_state.proofs.States.{same_state, state_later_twice, may_act_on}
use Rattle.ks_worker_acts.proofs.FedReplicas.{fed_length, fed_further, all_fed}
use Rattle.ks_worker_acts.proofs.StatesOn.{knows_same, knows_twice}
use Rattle.std.proofs.lemmas.Result.{IfOk-from_err}
use Rattle.ks_topo.specs.Topologies.{draft_of}
use Rattle.ks_worker_state.proofs.Exits.{counts_out, counts_none}
use Rattle.ks_worker_acts.proofs.feeding.feed_all.Goals as goal

pub loop-i-init : goal.loop-i-init
loop-i-init g c = record {
  later = same_state g.W.Work.plan c.args.shared.now.growing.id c.args.state.now c.requires.may.call;
  gate = refl;
  made = refl;
  same = knows_same c.args.state.now;
  tasks = refl;
  worker = c.requires.may.worker;
  fed = refl;
}

pub feed_place-requires-clause-index : goal.feed_place-requires-clause-index
feed_place-requires-clause-index g c =
    omega (
      arith,
      c.loop-i-test.true,
      c.len-i-end.ensures,
      c.args.state.now.replicas.ok.0,
      fed_length (setup_in g.W.Work.plan c.args.state.now.session.client.pass.frame) c.args.state.now.session.client.pass.seen c.loop-i.i c.args.state.now.replicas.items c.loop-i.state.replicas.items c.loop-i.invariant.fed,
    )

pub loop-i-preserved : goal.loop-i-preserved
loop-i-preserved g c = record {
  later = state_later_twice g.W.Work.plan c.args.state.now c.loop-i.state c.feed_place.new.state c.loop-i.invariant.later c.feed_place.ensures.later;
  gate = same_counts _ _ c.feed_place.result c.in_ok-feed_place.field-0 c.in_ok-feed_place.was c.feed_place.ensures.gate ∙ c.loop-i.invariant.gate;
  made = c.feed_place.ensures.made ∙ c.loop-i.invariant.made;
  same = knows_twice c.args.state.now c.loop-i.state c.feed_place.new.state c.loop-i.invariant.same c.feed_place.ensures.same;
  tasks = c.feed_place.ensures.tasks ∙ c.loop-i.invariant.tasks;
  worker = c.in_ok-feed_place.ensures.worker;
  fed = fed_further g.W.Work.plan c.args.state.now.session.client.pass c.loop-i.state.session.client.pass c.loop-i.invariant.later.later c.requires.may.call.network
      c.loop-i.i c.args.state.now.replicas.items c.loop-i.state.replicas.items c.feed_place.new.state.replicas.items c.loop-i.invariant.fed c.in_ok-feed_place.ensures.fed;
}

pub returns-clause-fed : goal.returns-clause-fed
returns-clause-fed g c =
    all_fed (setup_in g.W.Work.plan c.args.state.now.session.client.pass.frame) c.args.state.now.session.client.pass.seen c.loop-i.i c.args.state.now.replicas.items c.loop-i.state.replicas.items
    (omega (arith, c.loop-i-test.false, c.len-i-end.ensures, c.args.state.now.replicas.ok.0)) c.loop-i.invariant.fed

pub feed_place-requires-clause-may : goal.feed_place-requires-clause-may
feed_place-requires-clause-may g c = may_act_on g.W.Work.plan g.H.Hash128.hash_of _ (draft_of c.args.topology.now) c.args.state.now c.loop-i.state c.requires.may c.loop-i.invariant.later c.loop-i.invariant.gate c.loop-i.invariant.worker

pub returns-in_err-feed_place-clause-gate : goal.returns-in_err-feed_place-clause-gate
returns-in_err-feed_place-clause-gate g c = counts_out _ _ _ c.feed_place.result c.from_residual.result c.in_err-feed_place.field-0.0 c.loop-i.invariant.gate c.in_err-feed_place.was c.feed_place.ensures.gate c.from_residual.ensures.1

pub returns-in_err-feed_place-clause-later : goal.returns-in_err-feed_place-clause-later
returns-in_err-feed_place-clause-later g c = state_later_twice g.W.Work.plan c.args.state.now c.loop-i.state c.feed_place.new.state c.loop-i.invariant.later c.feed_place.ensures.later

pub returns-in_err-feed_place-clause-made : goal.returns-in_err-feed_place-clause-made
returns-in_err-feed_place-clause-made g c = c.feed_place.ensures.made ∙ c.loop-i.invariant.made

pub returns-in_err-feed_place-clause-same : goal.returns-in_err-feed_place-clause-same
returns-in_err-feed_place-clause-same g c = knows_twice c.args.state.now c.loop-i.state c.feed_place.new.state c.loop-i.invariant.same c.feed_place.ensures.same

pub returns-in_err-feed_place-clause-tasks : goal.returns-in_err-feed_place-clause-tasks
returns-in_err-feed_place-clause-tasks g c = c.feed_place.ensures.tasks ∙ c.loop-i.invariant.tasks

pub returns-in_err-feed_place-clause-worker : goal.returns-in_err-feed_place-clause-worker
returns-in_err-feed_place-clause-worker g c = IfOk-from_err c.from_residual.result _ c.from_residual.ensures.0

pub returns-in_err-feed_place-clause-fed : goal.returns-in_err-feed_place-clause-fed
returns-in_err-feed_place-clause-fed g c = IfOk-from_err c.from_residual.result _ c.from_residual.ensures.0

pub returns-clause-gate : goal.returns-clause-gate
returns-clause-gate g c = counts_none _ _ c.loop-i.invariant.gate
