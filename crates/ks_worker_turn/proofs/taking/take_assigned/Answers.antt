use Rattle.std.proofs.Common.{refl, sym, ◌∙◌}
use Rattle.std.proofs.lemmas.Result.{on_ok_weaker}
use Rattle.ks_worker_client.proofs.Moments.{not_later}
use Rattle.ks_worker_turn.proofs.Requests.{turn_none}
use Rattle.ks_worker_turn.proofs.Taken.{placed_it, placed_not}
use Rattle.ks_worker_turn.proofs.Activated.{one_restored, none_active}
use Rattle.ks_worker_turn.proofs.Listing.{among_itself}
use Rattle.ks_worker_turn.proofs.taking.take_assigned.Goals as goal

pub returns-then-not-is_placed-clause-made : goal.returns-then-not-is_placed-clause-made
returns-then-not-is_placed-clause-made g c = turn_none g.W.Work.plan c.args.state.now c.args.state.now (not_later g.W.Work.plan c.args.state.now.session.client.pass c.requires.may.call.history) refl

pub returns-then-not-is_placed-clause-held : goal.returns-then-not-is_placed-clause-held
returns-then-not-is_placed-clause-held g c = placed_not c.args.assignment.now c.args.state.now.member.number c.args.state.now c.args.task (sym c.is_placed.ensures ∙ c.if-not-is_placed.true)

pub returns-clause-held : goal.returns-clause-held
returns-clause-held g c =
    on_ok_weaker c.take_place.result
    (λ once. placed_it c.args.assignment.now c.args.state.now.member.number c.args.state.now c.take_place.new.state c.args.task (sym c.is_placed.ensures ∙ c.if-not-is_placed.false) once)
    c.take_place.ensures.held

pub returns-then-not-is_placed-clause-kept : goal.returns-then-not-is_placed-clause-kept
returns-then-not-is_placed-clause-kept g c = among_itself c.args.state.now.tasks.items

pub returns-then-not-is_placed-clause-restored : goal.returns-then-not-is_placed-clause-restored
returns-then-not-is_placed-clause-restored g c = none_active g.W.Work.plan c.args.state.now c.args.assignment.now c.args.task (sym c.is_placed.ensures ∙ c.if-not-is_placed.true)

pub returns-clause-restored : goal.returns-clause-restored
returns-clause-restored g c =
    on_ok_weaker c.take_place.result
    (λ h. one_restored g.W.Work.plan c.args.state.now c.take_place.new.state c.args.assignment.now c.args.task (λ placed inside. h (c.is_active_at-is_active.ensures.active inside placed)))
    c.take_place.ensures.restored
