use Rattle.std.proofs.Common.{◌≡◌, true, refl, sym, ap₂, subst, ◌∙◌, [], ◌∷◌}
use Rattle.ks_history.specs.declared.journal.Request.TheVariants.{Hold, Probe}
use Rattle.ks_history.specs.declared.journal.Reply.TheVariants.{Done}
use Rattle.ks_history.specs.History.{are_tasks}
use Rattle.ks_cluster.specs.Replies.{number_or}
use Rattle.ks_plan.specs.Infos.{changelog_numbers}
use Rattle.ks_topo.specs.Topologies.{draft_of, plan_in}
use Rattle.ks_shared.specs.Calls.{setup_in}
use Rattle.ks_worker_client.proofs.Halting.{was_ok_with, was_memory, same_counts}
use Rattle.ks_worker_state.proofs.States.{same_state}
use Rattle.ks_worker_state.proofs.Workers.{worker_later}
use Rattle.ks_worker_state.specs.Gained.{HasMade}
use Rattle.ks_worker_acts.specs.Telling.{positions_held}
use Rattle.ks_worker_state.proofs.Gains.{made_one, made_then}
use Rattle.ks_worker_acts.proofs.StatesOn.{known_positions, net_later}
use Rattle.std.proofs.lemmas.Result.{IfOk-from_err}
use Rattle.ks_worker_client.proofs.Moments.{may_later, later_twice}
use Rattle.ks_worker_state.proofs.Exits.{counts_out, counts_in, counts_memory}
use Rattle.ks_worker_acts.proofs.probing.probe.Goals as goal

pub returns-in_err-held-clause-later : goal.returns-in_err-held-clause-later
returns-in_err-held-clause-later g c = same_state g.W.Work.plan c.args.shared.now.growing.id c.args.state.now c.requires.may.call

pub hold-requires-clause-tasks : goal.hold-requires-clause-tasks
hold-requires-clause-tasks g c =
    let pass = c.args.state.now.session.client.pass in
    let changelogs = changelog_numbers (plan_in c.args.topology.now) in
    subst (λ l. are_tasks (setup_in g.W.Work.plan pass.frame) l ≡ true)
    (sym (c.as_slice-3.ensures.value ∙ was_ok_with c.positions_of.result _ c.in_ok-held.held (sym c.or_halt.ensures ∙ c.in_ok-held.was) c.positions_of.ensures
    ∙ ap₂ (positions_held changelogs) c.as_slice.ensures.value c.as_slice-2.ensures.value))
    (known_positions (setup_in g.W.Work.plan pass.frame) pass.seen changelogs (draft_of c.args.topology.now) c.args.state.now.member c.args.state.now.session.last c.args.state.now.tasks.items c.args.state.now.replicas.items
    c.requires.may.worker.tasks_are c.requires.may.worker.replicas_are)

pub returns-clause-worker : goal.returns-clause-worker
returns-clause-worker g c =
    let plan = g.W.Work.plan in
    let old = c.args.state.now.session.client.pass in
    let mid = c.hold.new.self.pass in
    worker_later plan mid c.probe.new.self.pass c.probe.ensures.later (net_later plan old mid c.hold.ensures.later c.requires.may.call.network) (draft_of c.args.topology.now) c.args.state.now.member c.args.state.now.session.last c.args.state.now.session.numbers.items
    c.args.state.now.tasks.items c.args.state.now.replicas.items
    (worker_later plan old mid c.hold.ensures.later c.requires.may.call.network (draft_of c.args.topology.now) c.args.state.now.member c.args.state.now.session.last c.args.state.now.session.numbers.items c.args.state.now.tasks.items c.args.state.now.replicas.items c.requires.may.worker)

pub returns-clause-told : goal.returns-clause-told
returns-clause-told g c =
    let plan = g.W.Work.plan in
    let old = c.args.state.now.session.client.pass in
    let mid = c.hold.new.self.pass in
    let new = c.probe.new.self.pass in
    let number = c.args.state.now.member.number in
    let generation = c.args.state.now.member.generation in
    let changelogs = changelog_numbers (plan_in c.args.topology.now) in
    subst (λ l. HasMade old new (Hold number l ∷ Probe number generation ∷ []))
    (c.as_slice-3.ensures.value ∙ was_ok_with c.positions_of.result _ c.in_ok-held.held (sym c.or_halt.ensures ∙ c.in_ok-held.was) c.positions_of.ensures
    ∙ ap₂ (positions_held changelogs) c.as_slice.ensures.value c.as_slice-2.ensures.value)
    (made_then old mid new (Hold number c.as_slice-3.result.now ∷ []) (Probe number generation ∷ []) (made_one plan old mid (Hold number c.as_slice-3.result.now) Done c.in_ok-hold.ensures.wrote)
    (made_one plan mid new (Probe number generation) (number_or c.in_ok-_answer._answer) c.in_ok-_answer.ensures.wrote))

pub probe-requires-clause-may : goal.probe-requires-clause-may
probe-requires-clause-may g c = may_later g.W.Work.plan _ _ _ _ _ c.hold.ensures.later (same_counts _ _ c.hold.result _ c.in_ok-hold.was c.hold.ensures.gate) c.requires.may.call

pub returns-in_err-held-clause-gate : goal.returns-in_err-held-clause-gate
returns-in_err-held-clause-gate g c = counts_memory _ _ c.from_residual.result c.in_err-held.field-0.0 refl (was_memory c.positions_of.result _ (sym c.or_halt.ensures ∙ c.in_err-held.was)) c.from_residual.ensures.1

pub returns-in_err-held-clause-same : goal.returns-in_err-held-clause-same
returns-in_err-held-clause-same g c = record { member = refl; last = refl; numbers = refl }

pub returns-in_err-held-clause-worker : goal.returns-in_err-held-clause-worker
returns-in_err-held-clause-worker g c = IfOk-from_err c.from_residual.result _ c.from_residual.ensures.0

pub returns-in_err-held-clause-told : goal.returns-in_err-held-clause-told
returns-in_err-held-clause-told g c = IfOk-from_err c.from_residual.result _ c.from_residual.ensures.0

pub returns-in_err-hold-clause-gate : goal.returns-in_err-hold-clause-gate
returns-in_err-hold-clause-gate g c = counts_out _ _ _ c.hold.result c.from_residual-in_err-hold.result c.in_err-hold.field-0.0 refl c.in_err-hold.was c.hold.ensures.gate c.from_residual-in_err-hold.ensures.1

pub returns-in_err-hold-clause-later : goal.returns-in_err-hold-clause-later
returns-in_err-hold-clause-later g c = record { later = c.hold.ensures.later; number = refl; instance = refl; cache = refl }

pub returns-in_err-hold-clause-same : goal.returns-in_err-hold-clause-same
returns-in_err-hold-clause-same g c = record { member = refl; last = refl; numbers = refl }

pub returns-in_err-hold-clause-worker : goal.returns-in_err-hold-clause-worker
returns-in_err-hold-clause-worker g c = IfOk-from_err c.from_residual-in_err-hold.result _ c.from_residual-in_err-hold.ensures.0

pub returns-in_err-hold-clause-told : goal.returns-in_err-hold-clause-told
returns-in_err-hold-clause-told g c = IfOk-from_err c.from_residual-in_err-hold.result _ c.from_residual-in_err-hold.ensures.0

pub returns-in_err-_answer-clause-gate : goal.returns-in_err-_answer-clause-gate
returns-in_err-_answer-clause-gate g c = counts_out _ _ _ c.probe.result c.from_residual-in_err-_answer.result c.in_err-_answer.field-0.0 (same_counts _ _ c.hold.result _ c.in_ok-hold.was c.hold.ensures.gate) c.in_err-_answer.was c.probe.ensures.gate c.from_residual-in_err-_answer.ensures.1

pub returns-in_err-_answer-clause-later : goal.returns-in_err-_answer-clause-later
returns-in_err-_answer-clause-later g c = record { later = later_twice g.W.Work.plan _ _ _ c.hold.ensures.later c.probe.ensures.later; number = refl; instance = refl; cache = refl }

pub returns-in_err-_answer-clause-same : goal.returns-in_err-_answer-clause-same
returns-in_err-_answer-clause-same g c = record { member = refl; last = refl; numbers = refl }

pub returns-in_err-_answer-clause-worker : goal.returns-in_err-_answer-clause-worker
returns-in_err-_answer-clause-worker g c = IfOk-from_err c.from_residual-in_err-_answer.result _ c.from_residual-in_err-_answer.ensures.0

pub returns-in_err-_answer-clause-told : goal.returns-in_err-_answer-clause-told
returns-in_err-_answer-clause-told g c = IfOk-from_err c.from_residual-in_err-_answer.result _ c.from_residual-in_err-_answer.ensures.0

pub returns-clause-gate : goal.returns-clause-gate
returns-clause-gate g c = counts_in _ _ _ c.probe.result _ (same_counts _ _ c.hold.result _ c.in_ok-hold.was c.hold.ensures.gate) c.in_ok-_answer.was c.probe.ensures.gate

pub returns-clause-later : goal.returns-clause-later
returns-clause-later g c = record { later = later_twice g.W.Work.plan _ _ _ c.hold.ensures.later c.probe.ensures.later; number = refl; instance = refl; cache = refl }

pub returns-clause-same : goal.returns-clause-same
returns-clause-same g c = record { member = refl; last = refl; numbers = refl }
