use Rattle.std.proofs.Common.{refl, sym, ap, subst, ◌∙◌, [], ◌∷◌, ◌++◌}
use Rattle.ks_history.specs.declared.journal.Request.TheVariants.{Expire}
use Rattle.ks_history.specs.declared.journal.Reply.TheVariants.{Truth}
use Rattle.ks_worker_client.proofs.Halting.{was_ok, was_memory, same_counts}
use Rattle.ks_worker_client.proofs.Moments.{may_later, later_twice, not_later}
use Rattle.ks_worker_state.specs.State.{replica_names}
use Rattle.ks_worker_state.specs.Gained.{HasMade}
use Rattle.ks_worker_acts.specs.Telling.{parks, RestsOnto}
use Rattle.ks_worker_state.proofs.Gains.{made_one, made_then}
use Rattle.ks_worker_acts.proofs.StatesOn.{left_standbys, left_names, left_worker}
use Rattle.std.proofs.lemmas.Result.{IfOk-from_err}
use Rattle.ks_worker_state.proofs.Exits.{counts_out, counts_in, counts_memory}
use Rattle.ks_worker_acts.proofs.leaving.leave.Goals as goal

pub park_all-requires-clause-standbys : goal.park_all-requires-clause-standbys
park_all-requires-clause-standbys g c =
    left_standbys g.W.Work.plan c.requires.may.0 c.requires.may.1 c.args.state.now.session.client.pass c.args.state.now.member c.args.state.now.session.last c.args.state.now.session.numbers.items
    c.args.state.now.tasks.items c.replace-tasks.result.items c.args.state.now.replicas.items c.replace-replicas.result.items c.rest_tasks.new.replicas.items
    (ap (λ v. v.items) c.replace-tasks.ensures.value) (ap (λ v. v.items) c.replace-replicas.ensures.value) c.requires.may.2.topology c.requires.may.2.worker
    (was_ok c.rest_tasks.result (RestsOnto c.replace-tasks.result.items c.replace-replicas.result.items c.rest_tasks.new.replicas.items) c.in_ok-or_halt.field-0 (sym c.or_halt.ensures ∙ c.in_ok-or_halt.was) c.rest_tasks.ensures)

pub returns-clause-worker : goal.returns-clause-worker
returns-clause-worker g c = λ d.
    left_worker g.W.Work.plan c.args.state.now.session.client.pass c.expire.new.self.pass
    (later_twice g.W.Work.plan c.args.state.now.session.client.pass c.park_all.new.client.pass c.expire.new.self.pass c.park_all.ensures.later c.expire.ensures.later)
    c.requires.may.1 d c.args.state.now.member c.args.state.now.session.last c.args.state.now.session.numbers.items c.new-3.result.items c.args.state.now.tasks.items c.replace-tasks.new.dest.items c.args.state.now.replicas.items c.replace-replicas.new.dest.items
    c.new-3.ensures.items (ap (λ v. v.items) c.replace-tasks.ensures.after ∙ c.new.ensures.items) (ap (λ v. v.items) c.replace-replicas.ensures.after ∙ c.new-2.ensures.items) c.requires.may.2.worker

pub returns-clause-left : goal.returns-clause-left
returns-clause-left g c =
    let plan = g.W.Work.plan in
    let old = c.args.state.now.session.client.pass in
    let mid = c.park_all.new.client.pass in
    let new = c.expire.new.self.pass in
    let number = c.args.state.now.member.number in
    subst (λ names. HasMade old new (parks c.args.state.now.member.instance names ++ Expire number ∷ []))
    (left_names c.args.state.now.tasks.items c.replace-tasks.result.items c.args.state.now.replicas.items c.replace-replicas.result.items c.rest_tasks.new.replicas.items
    (ap (λ v. v.items) c.replace-tasks.ensures.value) (ap (λ v. v.items) c.replace-replicas.ensures.value)
    (was_ok c.rest_tasks.result (RestsOnto c.replace-tasks.result.items c.replace-replicas.result.items c.rest_tasks.new.replicas.items) c.in_ok-or_halt.field-0 (sym c.or_halt.ensures ∙ c.in_ok-or_halt.was) c.rest_tasks.ensures))
    (made_then old mid new (parks c.args.state.now.member.instance (replica_names c.rest_tasks.new.replicas.items)) (Expire number ∷ []) c.in_ok-park_all.ensures.parked
    (made_one plan mid new (Expire number) (Truth c.in_ok-expire.field-0) c.in_ok-expire.ensures.wrote))

pub expire-requires-clause-may : goal.expire-requires-clause-may
expire-requires-clause-may g c = may_later g.W.Work.plan _ _ _ _ _ c.park_all.ensures.later (same_counts _ _ c.park_all.result _ c.in_ok-park_all.was c.park_all.ensures.gate) c.requires.may.2.call

pub returns-in_err-or_halt-clause-gate : goal.returns-in_err-or_halt-clause-gate
returns-in_err-or_halt-clause-gate g c = counts_memory _ _ c.from_residual.result c.in_err-or_halt.field-0.0 refl (was_memory c.rest_tasks.result _ (sym c.or_halt.ensures ∙ c.in_err-or_halt.was)) c.from_residual.ensures.1

pub returns-in_err-or_halt-clause-later : goal.returns-in_err-or_halt-clause-later
returns-in_err-or_halt-clause-later g c = record { later = not_later g.W.Work.plan c.args.state.now.session.client.pass c.requires.may.2.call.history; number = refl; instance = refl; cache = refl }

pub returns-in_err-or_halt-clause-member : goal.returns-in_err-or_halt-clause-member
returns-in_err-or_halt-clause-member g c = IfOk-from_err c.from_residual.result _ c.from_residual.ensures.0

pub returns-in_err-or_halt-clause-tasks : goal.returns-in_err-or_halt-clause-tasks
returns-in_err-or_halt-clause-tasks g c = IfOk-from_err c.from_residual.result _ c.from_residual.ensures.0

pub returns-in_err-or_halt-clause-replicas : goal.returns-in_err-or_halt-clause-replicas
returns-in_err-or_halt-clause-replicas g c = IfOk-from_err c.from_residual.result _ c.from_residual.ensures.0

pub returns-in_err-or_halt-clause-worker : goal.returns-in_err-or_halt-clause-worker
returns-in_err-or_halt-clause-worker g c = IfOk-from_err c.from_residual.result _ c.from_residual.ensures.0

pub returns-in_err-or_halt-clause-left : goal.returns-in_err-or_halt-clause-left
returns-in_err-or_halt-clause-left g c = IfOk-from_err c.from_residual.result _ c.from_residual.ensures.0

pub returns-in_err-park_all-clause-gate : goal.returns-in_err-park_all-clause-gate
returns-in_err-park_all-clause-gate g c = counts_out _ _ _ c.park_all.result c.from_residual-in_err-park_all.result c.in_err-park_all.field-0.0 refl c.in_err-park_all.was c.park_all.ensures.gate c.from_residual-in_err-park_all.ensures.1

pub returns-in_err-park_all-clause-later : goal.returns-in_err-park_all-clause-later
returns-in_err-park_all-clause-later g c = record { later = c.park_all.ensures.later; number = refl; instance = refl; cache = refl }

pub returns-in_err-park_all-clause-member : goal.returns-in_err-park_all-clause-member
returns-in_err-park_all-clause-member g c = IfOk-from_err c.from_residual-in_err-park_all.result _ c.from_residual-in_err-park_all.ensures.0

pub returns-in_err-park_all-clause-tasks : goal.returns-in_err-park_all-clause-tasks
returns-in_err-park_all-clause-tasks g c = IfOk-from_err c.from_residual-in_err-park_all.result _ c.from_residual-in_err-park_all.ensures.0

pub returns-in_err-park_all-clause-replicas : goal.returns-in_err-park_all-clause-replicas
returns-in_err-park_all-clause-replicas g c = IfOk-from_err c.from_residual-in_err-park_all.result _ c.from_residual-in_err-park_all.ensures.0

pub returns-in_err-park_all-clause-worker : goal.returns-in_err-park_all-clause-worker
returns-in_err-park_all-clause-worker g c = IfOk-from_err c.from_residual-in_err-park_all.result _ c.from_residual-in_err-park_all.ensures.0

pub returns-in_err-park_all-clause-left : goal.returns-in_err-park_all-clause-left
returns-in_err-park_all-clause-left g c = IfOk-from_err c.from_residual-in_err-park_all.result _ c.from_residual-in_err-park_all.ensures.0

pub returns-in_err-expire-clause-gate : goal.returns-in_err-expire-clause-gate
returns-in_err-expire-clause-gate g c =
    counts_out _ _ _ c.expire.result c.from_residual-in_err-expire.result c.in_err-expire.field-0.0 (same_counts _ _ c.park_all.result _ c.in_ok-park_all.was c.park_all.ensures.gate) c.in_err-expire.was c.expire.ensures.gate c.from_residual-in_err-expire.ensures.1

pub returns-in_err-expire-clause-later : goal.returns-in_err-expire-clause-later
returns-in_err-expire-clause-later g c = record { later = later_twice g.W.Work.plan _ _ _ c.park_all.ensures.later c.expire.ensures.later; number = refl; instance = refl; cache = refl }

pub returns-in_err-expire-clause-member : goal.returns-in_err-expire-clause-member
returns-in_err-expire-clause-member g c = IfOk-from_err c.from_residual-in_err-expire.result _ c.from_residual-in_err-expire.ensures.0

pub returns-in_err-expire-clause-tasks : goal.returns-in_err-expire-clause-tasks
returns-in_err-expire-clause-tasks g c = IfOk-from_err c.from_residual-in_err-expire.result _ c.from_residual-in_err-expire.ensures.0

pub returns-in_err-expire-clause-replicas : goal.returns-in_err-expire-clause-replicas
returns-in_err-expire-clause-replicas g c = IfOk-from_err c.from_residual-in_err-expire.result _ c.from_residual-in_err-expire.ensures.0

pub returns-in_err-expire-clause-worker : goal.returns-in_err-expire-clause-worker
returns-in_err-expire-clause-worker g c = IfOk-from_err c.from_residual-in_err-expire.result _ c.from_residual-in_err-expire.ensures.0

pub returns-in_err-expire-clause-left : goal.returns-in_err-expire-clause-left
returns-in_err-expire-clause-left g c = IfOk-from_err c.from_residual-in_err-expire.result _ c.from_residual-in_err-expire.ensures.0

pub returns-clause-gate : goal.returns-clause-gate
returns-clause-gate g c = counts_in _ _ _ c.expire.result _ (same_counts _ _ c.park_all.result _ c.in_ok-park_all.was c.park_all.ensures.gate) c.in_ok-expire.was c.expire.ensures.gate

pub returns-clause-later : goal.returns-clause-later
returns-clause-later g c = record { later = later_twice g.W.Work.plan _ _ _ c.park_all.ensures.later c.expire.ensures.later; number = refl; instance = refl; cache = refl }

pub returns-clause-tasks : goal.returns-clause-tasks
returns-clause-tasks g c = ap (λ v. v.items) c.replace-tasks.ensures.after ∙ c.new.ensures.items

pub returns-clause-replicas : goal.returns-clause-replicas
returns-clause-replicas g c = ap (λ v. v.items) c.replace-replicas.ensures.after ∙ c.new-2.ensures.items
