use Rattle.ks_shared.specs.Calls.{setup_in}
use Rattle.ks_worker_acts.proofs.StatesOn.{knows_twice, looked_back, looked_behind}
use Rattle.std.proofs.Common.{refl, sym, subst, ◌∙◌}
use Rattle.std.specs.List.{All}
use Rattle.std.proofs.lemmas.List.Elements.{All-take, All-drop}
use Rattle.std.proofs.lemmas.Result.{IfOk-weaker, IfOk-from_err}
use Rattle.ks_plan.specs.Infos.{input_numbers}
use Rattle.ks_topo.specs.Topologies.{draft_of, plan_in}
use Rattle.ks_worker_client.proofs.Halting.{same_counts, counts_on}
use Rattle.ks_worker_state.proofs.States.{state_later_twice, may_act_on}
use Rattle.ks_worker_state.proofs.Exits.{counts_out, counts_in}
use Rattle.ks_worker_acts.specs.Inputs.{IsInputAt}
use Rattle.ks_worker_acts.proofs.reading.read_round.Goals as goal

pub returns-clause-looked : goal.returns-clause-looked
returns-clause-looked g c =
    IfOk-weaker c.read_first-2.result _ _
    (λ moved front. looked_back g.W.Work.plan c.args.state.now.session.client.pass c.read_first.new.state.session.client.pass c.read_first.ensures.later.later c.requires.may.call.network c.args.places.now c.split_at.result.1.now c.split_at.result.0.now c.args.start
    c.args.state.now.tasks.items c.read_first.new.state.tasks.items c.read_first-2.new.state.tasks.items c.in_ok-read_first.field-0 moved c.split_at.ensures.back c.split_at.ensures.front c.if-branch.false
    c.in_ok-read_first.ensures.looked front)
    c.read_first-2.ensures.looked

pub returns-then-branch-clause-looked : goal.returns-then-branch-clause-looked
returns-then-branch-clause-looked g c =
    looked_behind (setup_in g.W.Work.plan c.args.state.now.session.client.pass.frame) c.args.state.now.session.client.pass.seen c.args.places.now c.split_at.result.1.now c.args.start
    c.args.state.now.tasks.items c.read_first.new.state.tasks.items c.in_ok-read_first.field-0 c.split_at.ensures.back c.if-branch.true c.in_ok-read_first.ensures.looked

pub read_first-requires-clause-places : goal.read_first-requires-clause-places
read_first-requires-clause-places g c = subst (All (IsInputAt (input_numbers (plan_in c.args.topology.now)) c.args.state.now.tasks.items)) (sym c.split_at.ensures.back) (All-drop (IsInputAt (input_numbers (plan_in c.args.topology.now)) c.args.state.now.tasks.items) c.args.start c.args.places.now c.requires.places)

pub read_first-requires-2-clause-may : goal.read_first-requires-2-clause-may
read_first-requires-2-clause-may g c = may_act_on g.W.Work.plan g.H.Hash128.hash_of _ (draft_of c.args.topology.now) c.args.state.now c.read_first.new.state c.requires.may c.read_first.ensures.later (same_counts _ _ c.read_first.result _ c.in_ok-read_first.was c.read_first.ensures.gate) c.in_ok-read_first.ensures.worker

pub read_first-requires-2-clause-places : goal.read_first-requires-2-clause-places
read_first-requires-2-clause-places g c =
    subst (λ ts. All (IsInputAt (input_numbers (plan_in c.args.topology.now)) ts) c.split_at.result.0.now) (sym (c.in_ok-read_first.ensures.looked.stays c.if-branch.false))
    (subst (All (IsInputAt (input_numbers (plan_in c.args.topology.now)) c.args.state.now.tasks.items)) (sym c.split_at.ensures.front) (All-take (IsInputAt (input_numbers (plan_in c.args.topology.now)) c.args.state.now.tasks.items) c.args.start c.args.places.now c.requires.places))

pub returns-in_err-read_first-clause-gate : goal.returns-in_err-read_first-clause-gate
returns-in_err-read_first-clause-gate g c = counts_out _ _ _ c.read_first.result c.from_residual.result c.in_err-read_first.field-0.0 refl c.in_err-read_first.was c.read_first.ensures.gate c.from_residual.ensures.1

pub returns-in_err-read_first-clause-worker : goal.returns-in_err-read_first-clause-worker
returns-in_err-read_first-clause-worker g c = IfOk-from_err c.from_residual.result _ c.from_residual.ensures.0

pub returns-in_err-read_first-clause-looked : goal.returns-in_err-read_first-clause-looked
returns-in_err-read_first-clause-looked g c = IfOk-from_err c.from_residual.result _ c.from_residual.ensures.0

pub returns-then-branch-clause-gate : goal.returns-then-branch-clause-gate
returns-then-branch-clause-gate g c = counts_in _ _ _ c.read_first.result _ refl c.in_ok-read_first.was c.read_first.ensures.gate

pub returns-clause-gate : goal.returns-clause-gate
returns-clause-gate g c = counts_on _ _ _ c.read_first-2.result (same_counts _ _ c.read_first.result _ c.in_ok-read_first.was c.read_first.ensures.gate) c.read_first-2.ensures.gate

pub returns-clause-later : goal.returns-clause-later
returns-clause-later g c = state_later_twice g.W.Work.plan c.args.state.now c.read_first.new.state c.read_first-2.new.state c.read_first.ensures.later c.read_first-2.ensures.later

pub returns-clause-made : goal.returns-clause-made
returns-clause-made g c = c.read_first-2.ensures.made ∙ c.read_first.ensures.made

pub returns-clause-same : goal.returns-clause-same
returns-clause-same g c = knows_twice c.args.state.now c.read_first.new.state c.read_first-2.new.state c.read_first.ensures.same c.read_first-2.ensures.same

pub returns-clause-replicas : goal.returns-clause-replicas
returns-clause-replicas g c = c.read_first-2.ensures.replicas ∙ c.read_first.ensures.replicas

pub returns-clause-worker : goal.returns-clause-worker
returns-clause-worker g c = c.read_first-2.ensures.worker
