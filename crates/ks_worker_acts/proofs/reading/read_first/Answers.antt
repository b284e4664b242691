use Rattle.std.proofs.Common.{false, refl, subst, ◌∙◌}
use Rattle.ks_shared.specs.Calls.{setup_in}
use Rattle.ks_worker_client.proofs.Halting.{same_counts}
use Rattle.ks_worker_state.proofs.States.{same_state, state_later_twice, may_act_on}
use Rattle.ks_worker_acts.proofs.Looks.{looked_none}
use Rattle.ks_worker_acts.proofs.StatesOn.{knows_same, knows_twice, looked_next, looked_found}
use Rattle.std.proofs.lemmas.List.{take_all}
use Rattle.std.proofs.lemmas.Result.{IfOk-from_err}
use Rattle.ks_plan.specs.Infos.{input_numbers}
use Rattle.ks_topo.specs.Topologies.{draft_of, plan_in}
use Rattle.ks_worker_acts.specs.Inputs.{HasLooked}
use Rattle.ks_worker_acts.proofs.WorkerOn.{input_at}
use Rattle.ks_worker_state.proofs.Exits.{counts_out, counts_in, counts_none}
use Rattle.ks_worker_acts.proofs.reading.read_first.Goals as goal

pub loop-i-init : goal.loop-i-init
loop-i-init g c = record {
  later = same_state g.W.Work.plan c.args.shared.now.growing.id c.args.state.now c.requires.may.call;
  gate = refl;
  made = refl;
  same = knows_same c.args.state.now;
  replicas = refl;
  worker = c.requires.may.worker;
  looked = looked_none (setup_in g.W.Work.plan c.args.state.now.session.client.pass.frame) c.args.state.now.session.client.pass.seen c.args.state.now.tasks.items;
}

pub loop-i-preserved : goal.loop-i-preserved
loop-i-preserved g c = record {
  later = state_later_twice g.W.Work.plan c.args.state.now c.loop-i.state c.read_place.new.state c.loop-i.invariant.later c.read_place.ensures.later;
  gate = same_counts _ _ c.read_place.result c.in_ok-read_place.field-0 c.in_ok-read_place.was c.read_place.ensures.gate ∙ c.loop-i.invariant.gate;
  made = c.read_place.ensures.made ∙ c.loop-i.invariant.made;
  same = knows_twice c.args.state.now c.loop-i.state c.read_place.new.state c.loop-i.invariant.same c.read_place.ensures.same;
  replicas = c.read_place.ensures.replicas ∙ c.loop-i.invariant.replicas;
  worker = c.in_ok-read_place.ensures.worker;
  looked = looked_next g.W.Work.plan c.args.state.now.session.client.pass c.loop-i.state.session.client.pass c.loop-i.invariant.later.later c.requires.may.call.network c.loop-i.i _ c.args.places.now
      c.args.state.now.tasks.items c.loop-i.state.tasks.items c.read_place.new.state.tasks.items c.in_ok-read_place.field-0 c.loop-i-test.true c.if-branch.false c.loop-i.invariant.looked c.in_ok-read_place.ensures.looked;
}

pub returns-then-branch-clause-looked : goal.returns-then-branch-clause-looked
returns-then-branch-clause-looked g c =
    looked_found g.W.Work.plan c.args.state.now.session.client.pass c.loop-i.state.session.client.pass c.loop-i.invariant.later.later c.requires.may.call.network c.loop-i.i _ c.args.places.now
    c.args.state.now.tasks.items c.loop-i.state.tasks.items c.read_place.new.state.tasks.items c.in_ok-read_place.field-0 c.loop-i-test.true c.if-branch.true c.loop-i.invariant.looked c.in_ok-read_place.ensures.looked

pub read_place-requires-clause-may : goal.read_place-requires-clause-may
read_place-requires-clause-may g c = may_act_on g.W.Work.plan g.H.Hash128.hash_of _ (draft_of c.args.topology.now) c.args.state.now c.loop-i.state c.requires.may c.loop-i.invariant.later c.loop-i.invariant.gate c.loop-i.invariant.worker

pub read_place-requires-clause-place : goal.read_place-requires-clause-place
read_place-requires-clause-place g c = input_at (input_numbers (plan_in c.args.topology.now)) c.args.state.now.tasks.items c.loop-i.state.tasks.items c.args.places.now c.loop-i.i _ c.loop-i-test.true (c.loop-i.invariant.looked.stays refl) c.requires.places

pub returns-in_err-read_place-clause-gate : goal.returns-in_err-read_place-clause-gate
returns-in_err-read_place-clause-gate g c = counts_out _ _ _ c.read_place.result c.from_residual.result c.in_err-read_place.field-0.0 c.loop-i.invariant.gate c.in_err-read_place.was c.read_place.ensures.gate c.from_residual.ensures.1

pub returns-then-branch-clause-gate : goal.returns-then-branch-clause-gate
returns-then-branch-clause-gate g c = counts_in _ _ _ c.read_place.result _ c.loop-i.invariant.gate c.in_ok-read_place.was c.read_place.ensures.gate

pub returns-in_err-read_place-clause-later : goal.returns-in_err-read_place-clause-later
returns-in_err-read_place-clause-later g c = state_later_twice g.W.Work.plan c.args.state.now c.loop-i.state c.read_place.new.state c.loop-i.invariant.later c.read_place.ensures.later

pub returns-in_err-read_place-clause-made : goal.returns-in_err-read_place-clause-made
returns-in_err-read_place-clause-made g c = c.read_place.ensures.made ∙ c.loop-i.invariant.made

pub returns-in_err-read_place-clause-same : goal.returns-in_err-read_place-clause-same
returns-in_err-read_place-clause-same g c = knows_twice c.args.state.now c.loop-i.state c.read_place.new.state c.loop-i.invariant.same c.read_place.ensures.same

pub returns-in_err-read_place-clause-replicas : goal.returns-in_err-read_place-clause-replicas
returns-in_err-read_place-clause-replicas g c = c.read_place.ensures.replicas ∙ c.loop-i.invariant.replicas

pub returns-then-branch-clause-later : goal.returns-then-branch-clause-later
returns-then-branch-clause-later g c = state_later_twice g.W.Work.plan c.args.state.now c.loop-i.state c.read_place.new.state c.loop-i.invariant.later c.read_place.ensures.later

pub returns-then-branch-clause-made : goal.returns-then-branch-clause-made
returns-then-branch-clause-made g c = c.read_place.ensures.made ∙ c.loop-i.invariant.made

pub returns-then-branch-clause-same : goal.returns-then-branch-clause-same
returns-then-branch-clause-same g c = knows_twice c.args.state.now c.loop-i.state c.read_place.new.state c.loop-i.invariant.same c.read_place.ensures.same

pub returns-then-branch-clause-replicas : goal.returns-then-branch-clause-replicas
returns-then-branch-clause-replicas g c = c.read_place.ensures.replicas ∙ c.loop-i.invariant.replicas

pub returns-in_err-read_place-clause-worker : goal.returns-in_err-read_place-clause-worker
returns-in_err-read_place-clause-worker g c = IfOk-from_err c.from_residual.result _ c.from_residual.ensures.0

pub returns-in_err-read_place-clause-looked : goal.returns-in_err-read_place-clause-looked
returns-in_err-read_place-clause-looked g c = IfOk-from_err c.from_residual.result _ c.from_residual.ensures.0

pub returns-clause-gate : goal.returns-clause-gate
returns-clause-gate g c = counts_none _ _ c.loop-i.invariant.gate

pub returns-clause-looked : goal.returns-clause-looked
returns-clause-looked g c =
    subst (λ l. HasLooked (setup_in g.W.Work.plan c.args.state.now.session.client.pass.frame) c.args.state.now.session.client.pass.seen false l c.args.state.now.tasks.items c.loop-i.state.tasks.items)
    (take_all c.loop-i.i c.args.places.now c.loop-i-test.false) c.loop-i.invariant.looked
