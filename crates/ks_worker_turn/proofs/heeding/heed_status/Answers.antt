use Rattle.std.proofs.Common.{refl, sym, ap, subst, ◌∙◌}
use Rattle.ks_shared.specs.Calls.{setup_in}
use Rattle.ks_worker_client.proofs.Halting.{same_counts}
use Rattle.ks_worker_client.proofs.Moments.{same_frame}
use Rattle.ks_worker_state.specs.Topology.{RunsTopology}
use Rattle.ks_worker_state.proofs.Workers.{worker_later}
use Rattle.ks_worker_turn.proofs.Joined.{now_listed}
use Rattle.ks_worker_turn.proofs.Rested.{worker_rested, none_left, over_unlisted, over_newer}
use Rattle.ks_history.specs.State.{has_number}
use Rattle.ks_worker_turn.specs.Resting.{is_generation_over, HaveRested}
use Rattle.std.proofs.lemmas.Result.{IfOk-from_err}
use Rattle.ks_worker_state.proofs.Exits.{counts_out, counts_none}
use Rattle.ks_worker_turn.proofs.heeding.heed_status.Goals as goal

pub returns-clause-worker : goal.returns-clause-worker
returns-clause-worker g c = λ hash d runs w.
    let s = c.args.state.now in
    let pass = c.status.new.self.pass in
    let tasks = c.rest_where_over.new.tasks.items in
    let replicas = c.rest_where_over.new.replicas.items in
    let rested = c.in-Ok.ensures in
    let told = worker_later g.W.Work.plan s.session.client.pass pass c.status.ensures.later c.requires.may.network d s.member s.session.last s.session.numbers.items s.tasks.items s.replicas.items w in
    now_listed g.W.Work.plan d pass s.member c.is_listed-listed.result s.session.last s.session.numbers.items tasks replicas (λ e. none_left c.is_over-is_over.result s.tasks.items tasks s.replicas.items replicas (c.is_over-is_over.ensures ∙ over_unlisted s.member.generation c.in_ok-status.status.generation c.is_listed-listed.result e) rested)
    (worker_rested g.W.Work.plan hash d pass s.member s.session.last s.session.numbers.items s.tasks.items tasks s.replicas.items replicas c.is_over-is_over.result
    (subst (λ f. RunsTopology hash d (setup_in g.W.Work.plan f)) (sym (same_frame g.W.Work.plan s.session.client.pass pass c.status.ensures.later)) runs) rested told)

pub returns-clause-rested : goal.returns-clause-rested
returns-clause-rested g c =
    let s = c.args.state.now in
    let tasks = c.rest_where_over.new.tasks.items in
    let replicas = c.rest_where_over.new.replicas.items in
    subst (λ b. HaveRested b s.tasks.items s.replicas.items tasks replicas)
    (c.is_over-is_over.ensures ∙ ap (is_generation_over s.member.generation c.in_ok-status.status.generation) (c.is_listed-listed.ensures ∙ ap (has_number s.member.number) c.as_slice.ensures))
    c.in-Ok.ensures

pub returns-clause-newer : goal.returns-clause-newer
returns-clause-newer g c = λ newer.
    let s = c.args.state.now in
    none_left c.is_over-is_over.result s.tasks.items c.rest_where_over.new.tasks.items s.replicas.items c.rest_where_over.new.replicas.items
    (c.is_over-is_over.ensures ∙ over_newer s.member.generation c.in_ok-status.status.generation c.is_listed-listed.result newer)
    c.in-Ok.ensures

pub returns-in_err-status-clause-gate : goal.returns-in_err-status-clause-gate
returns-in_err-status-clause-gate g c = counts_out _ _ _ c.status.result c.from_residual.result c.in_err-status.field-0.0 refl c.in_err-status.was c.status.ensures.gate c.from_residual.ensures.1

pub returns-in_err-status-clause-worker : goal.returns-in_err-status-clause-worker
returns-in_err-status-clause-worker g c = IfOk-from_err c.from_residual.result _ c.from_residual.ensures.0

pub returns-in_err-status-clause-status : goal.returns-in_err-status-clause-status
returns-in_err-status-clause-status g c = IfOk-from_err c.from_residual.result _ c.from_residual.ensures.0

pub returns-in_err-status-clause-member : goal.returns-in_err-status-clause-member
returns-in_err-status-clause-member g c = IfOk-from_err c.from_residual.result _ c.from_residual.ensures.0

pub returns-in_err-status-clause-rested : goal.returns-in_err-status-clause-rested
returns-in_err-status-clause-rested g c = IfOk-from_err c.from_residual.result _ c.from_residual.ensures.0

pub returns-in_err-status-clause-newer : goal.returns-in_err-status-clause-newer
returns-in_err-status-clause-newer g c = IfOk-from_err c.from_residual.result _ c.from_residual.ensures.0

pub returns-in_default-clause-gate : goal.returns-in_default-clause-gate
returns-in_default-clause-gate g c = counts_none _ _ (same_counts _ _ c.status.result _ c.in_ok-status.was c.status.ensures.gate)

pub returns-clause-gate : goal.returns-clause-gate
returns-clause-gate g c = counts_none _ _ (same_counts _ _ c.status.result _ c.in_ok-status.was c.status.ensures.gate)

pub returns-in_err-status-clause-later : goal.returns-in_err-status-clause-later
returns-in_err-status-clause-later g c = record { later = c.status.ensures.later; number = refl; instance = refl; cache = refl }

pub returns-in_default-clause-later : goal.returns-in_default-clause-later
returns-in_default-clause-later g c = record { later = c.status.ensures.later; number = refl; instance = refl; cache = refl }

pub returns-clause-later : goal.returns-clause-later
returns-clause-later g c = record { later = c.status.ensures.later; number = refl; instance = refl; cache = refl }
