use Rattle.ks_worker_client.proofs.Moments.{not_later}
use Rattle.ks_worker_turn.proofs.Assigned.{told_so}
use Rattle.ks_worker_turn.proofs.Offered.{good_at, has_one, has_none, of_offer, of_none, some_not_none}
use Rattle.ks_worker_turn.proofs.Placed.{some_said, if_ok_with}
use Rattle.ks_worker_turn.specs.Placing.{MayOffer}
use Rattle.std.proofs.Common.{refl, sym, ◌∙◌}
use Rattle.std.proofs.lemmas.Result.{IfOk-weaker}
use Rattle.ks_worker_state.proofs.Gains.{only_none}
use Rattle.ks_worker_turn.specs.Requests.{is_of_turn}
use Rattle.ks_worker_state.proofs.Exits.{counts_none}
use Rattle.ks_worker_turn.proofs.assigning.assignment_of.Goals as goal

pub offer_assignment-requires-clause-good : goal.offer_assignment-requires-clause-good
offer_assignment-requires-clause-good g c =
    good_at g.W.Work.plan g.W.Work.good c.args.client.now.pass c.args.told c.in-Some.assignment c.requires.status (some_said c.args.offer c.in-Some.assignment (MayOffer g.W.Work.plan g.W.Work.good c.args.client.now.pass.frame c.args.told) c.in-Some.is c.requires.offer)

pub returns-then-is_some-clause-told : goal.returns-then-is_some-clause-told
returns-then-is_some-clause-told g c = told_so g.W.Work.plan c.args.client.now.pass c.requires.may.history c.args.told c.requires.status

pub returns-then-is_some-clause-later : goal.returns-then-is_some-clause-later
returns-then-is_some-clause-later g c = not_later g.W.Work.plan c.args.client.now.pass c.requires.may.history

pub returns-then-is_some-clause-made : goal.returns-then-is_some-clause-made
returns-then-is_some-clause-made g c = λ instance. only_none g.W.Work.plan (is_of_turn c.args.number instance) c.args.client.now.pass c.args.client.now.pass (not_later g.W.Work.plan c.args.client.now.pass c.requires.may.history) refl

pub returns-then-is_some-clause-given : goal.returns-then-is_some-clause-given
returns-then-is_some-clause-given g c = λ some. refl

pub returns-then-is_some-clause-offered : goal.returns-then-is_some-clause-offered
returns-then-is_some-clause-offered g c = λ none. absurd (has_one c.args.told.assignment (sym c.is_some.ensures ∙ c.if-is_some.true) none)

pub returns-in_default-clause-made : goal.returns-in_default-clause-made
returns-in_default-clause-made g c = λ instance. only_none g.W.Work.plan (is_of_turn c.args.number instance) c.args.client.now.pass c.args.client.now.pass (not_later g.W.Work.plan c.args.client.now.pass c.requires.may.history) refl

pub returns-in_default-clause-given : goal.returns-in_default-clause-given
returns-in_default-clause-given g c = λ some. absurd (some (has_none c.args.told.assignment (sym c.is_some.ensures ∙ c.if-is_some.false)))

pub returns-in_default-clause-offered : goal.returns-in_default-clause-offered
returns-in_default-clause-offered g c = λ none. of_none c.args.offer _ c.in_default.is

pub returns-clause-given : goal.returns-clause-given
returns-clause-given g c = if_ok_with c.offer_assignment.result (λ o some. absurd (some (has_none c.args.told.assignment (sym c.is_some.ensures ∙ c.if-is_some.false))))

pub returns-clause-offered : goal.returns-clause-offered
returns-clause-offered g c = IfOk-weaker c.offer_assignment.result _ _ (λ o h none. of_offer c.args.offer c.in-Some.assignment _ c.in-Some.is h) c.offer_assignment.ensures.offered

pub returns-then-is_some-clause-idle : goal.returns-then-is_some-clause-idle
returns-then-is_some-clause-idle g c = λ none idle. absurd (has_one c.args.told.assignment (sym c.is_some.ensures ∙ c.if-is_some.true) none)

pub returns-in_default-clause-idle : goal.returns-in_default-clause-idle
returns-in_default-clause-idle g c = λ none idle. refl

pub returns-clause-idle : goal.returns-clause-idle
returns-clause-idle g c = if_ok_with c.offer_assignment.result (λ o none idle. absurd (some_not_none c.args.offer c.in-Some.assignment c.in-Some.is idle))

pub offer_assignment-requires-clause-active : goal.offer_assignment-requires-clause-active
offer_assignment-requires-clause-active g c =
    (some_said c.args.offer c.in-Some.assignment (MayOffer g.W.Work.plan g.W.Work.good c.args.client.now.pass.frame c.args.told) c.in-Some.is c.requires.offer).places.active

pub offer_assignment-requires-clause-standby : goal.offer_assignment-requires-clause-standby
offer_assignment-requires-clause-standby g c =
    (some_said c.args.offer c.in-Some.assignment (MayOffer g.W.Work.plan g.W.Work.good c.args.client.now.pass.frame c.args.told) c.in-Some.is c.requires.offer).places.standby

pub offer_assignment-requires-clause-warmup : goal.offer_assignment-requires-clause-warmup
offer_assignment-requires-clause-warmup g c =
    (some_said c.args.offer c.in-Some.assignment (MayOffer g.W.Work.plan g.W.Work.good c.args.client.now.pass.frame c.args.told) c.in-Some.is c.requires.offer).places.warmup

pub returns-then-is_some-clause-gate : goal.returns-then-is_some-clause-gate
returns-then-is_some-clause-gate g c = counts_none _ _ refl

pub returns-in_default-clause-gate : goal.returns-in_default-clause-gate
returns-in_default-clause-gate g c = counts_none _ _ refl

pub returns-in_default-clause-later : goal.returns-in_default-clause-later
returns-in_default-clause-later g c = not_later g.W.Work.plan c.args.client.now.pass c.requires.may.history
