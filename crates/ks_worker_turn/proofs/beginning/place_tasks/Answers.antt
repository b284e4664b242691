use Rattle.std.proofs.Common.{inl, refl, sym, ◌∙◌}
use Rattle.std.specs.Prelude.{max, IfSome}
use Rattle.std.proofs.lemmas.Result.{on_ok_weaker}
use Rattle.ks_topo.specs.Topologies.{draft_of, plan_in}
use Rattle.ks_plan.specs.Infos.{changelog_numbers}
use Rattle.ks_plan.specs.Layout.{tasks}
use Rattle.ks_plan.specs.Plan.{plan_of}
use Rattle.ks_assign_group.specs.Groups.{IsGoodBy}
use Rattle.ks_worker_client.proofs.Halting.{same_counts, was_ok_with}
use Rattle.ks_worker_client.proofs.Moments.{later_twice}
use Rattle.ks_worker_state.proofs.States.{same_state}
use Rattle.ks_worker_turn.proofs.Keeping.{acts_on, later_still}
use Rattle.ks_worker_turn.proofs.Offered.{may_offers}
use Rattle.ks_worker_turn.proofs.Assigned.{own_or_told, told_past}
use Rattle.ks_worker_turn.specs.Acting.{WasAssigned}
use Rattle.ks_worker_turn.proofs.Placed.{generation_later, some_said, ok_four}
use Rattle.ks_worker_turn.proofs.Activated.{taken_all}
use Rattle.ks_worker_state.proofs.Gains.{only_then}
use Rattle.ks_worker_turn.specs.Requests.{is_of_turn}
use Rattle.ks_worker_turn.specs.Beginning.{at_moment}
use Rattle.ks_worker_turn.specs.Restored.{HasTakenAll}
use Rattle.ks_worker_turn.proofs.Begun.{placed, only_newer, nothing_took, took_it, none_stays}
use Rattle.ks_worker_turn.proofs.beginning.place_tasks.Goals as goal

pub assignment_of-requires-clause-offer : goal.assignment_of-requires-clause-offer
assignment_of-requires-clause-offer g c =
    let d = draft_of c.args.topology.now in
    may_offers g.W.Work.plan g.W.Work.good g.H.Hash128.hash_of d c.args.placing.now c.args.state.now.session.client.pass.frame c.args.told c.in_ok-offer.offer c.requires.may.topology c.requires.placing
    (was_ok_with c.new_assignment.result (λ o. IfSome o (IsGoodBy (changelog_numbers (plan_of d)) (tasks (plan_of d)) c.args.placing.now c.args.told)) c.in_ok-offer.offer (sym c.or_halt.ensures ∙ c.in_ok-offer.was) c.new_assignment.ensures.good)

pub returns-in_err-offer-clause-later : goal.returns-in_err-offer-clause-later
returns-in_err-offer-clause-later g c = same_state g.W.Work.plan _ c.args.state.now c.requires.may.call

pub take_places-requires-clause-may : goal.take_places-requires-clause-may
take_places-requires-clause-may g c =
    acts_on g.W.Work.plan g.H.Hash128.hash_of _ (draft_of c.args.topology.now) c.args.state.now c.assignment_of.new.client c.requires.may c.assignment_of.ensures.later
    (same_counts _ _ c.assignment_of.result c.in_ok-answer.answer c.in_ok-answer.was c.assignment_of.ensures.gate)

pub take_places-requires-clause-past : goal.take_places-requires-clause-past
take_places-requires-clause-past g c =
    generation_later g.W.Work.plan c.args.state.now.session.client.pass c.assignment_of.new.client.pass c.args.told.generation c.assignment_of.ensures.later (told_past g.W.Work.plan c.args.state.now.session.client.pass c.args.told c.requires.status)

pub returns-in_default-clause-worker : goal.returns-in_default-clause-worker
returns-in_default-clause-worker g c =
    (acts_on g.W.Work.plan g.H.Hash128.hash_of _ (draft_of c.args.topology.now) c.args.state.now c.assignment_of.new.client c.requires.may c.assignment_of.ensures.later
    (same_counts _ _ c.assignment_of.result c.in_ok-answer.answer c.in_ok-answer.was c.assignment_of.ensures.gate)).worker

pub returns-in_default-clause-generation : goal.returns-in_default-clause-generation
returns-in_default-clause-generation g c = inl refl

pub returns-clause-generation : goal.returns-clause-generation
returns-clause-generation g c =
    let s = c.args.state.now in
    let mid = c.assignment_of.new.client.pass in
    let n = c.take_places.new.state in
    on_ok_weaker c.take_places.result
    (λ member. own_or_told g.W.Work.plan s.session.client.pass mid n.session.client.pass s.member n.member c.args.told.generation
    (some_said c.in_ok-answer.answer c.in-Some.assignment (λ a. WasAssigned g.W.Work.plan s.session.client.pass mid c.args.told.generation) c.in-Some.is c.in_ok-answer.ensures.told)
    c.take_places.ensures.later.later member)
    c.take_places.ensures.member

pub returns-clause-later : goal.returns-clause-later
returns-clause-later g c =
    let s = c.args.state.now in
    let l = c.take_places.ensures.later in
    record { later = later_twice g.W.Work.plan _ _ _ c.assignment_of.ensures.later l.later; number = l.number; instance = l.instance; cache = l.cache }

pub returns-in_default-clause-later : goal.returns-in_default-clause-later
returns-in_default-clause-later g c = record { later = c.assignment_of.ensures.later; number = refl; instance = refl; cache = refl }

pub returns-in_default-clause-made : goal.returns-in_default-clause-made
returns-in_default-clause-made g c = c.in_ok-answer.ensures.made c.args.state.now.member.instance

pub returns-in_default-clause-placed : goal.returns-in_default-clause-placed
returns-in_default-clause-placed g c =
    let s = c.args.state.now in
    let none = c.in_default.is in
    placed g.W.Work.plan c.args.placing.now.threads (tasks (plan_in c.args.topology.now)) s (record s { session = record s.session { client = c.assignment_of.new.client } }) c.args.told c.requires.status c.in_ok-offer.offer c.in_ok-answer.answer
    c.assignment_of.new.client.pass (later_still g.W.Work.plan s.session.client.pass c.assignment_of.new.client.pass c.assignment_of.ensures.later)
    refl
    (was_ok_with c.new_assignment.result _ c.in_ok-offer.offer (sym c.or_halt.ensures ∙ c.in_ok-offer.was) c.new_assignment.ensures.none)
    c.in_ok-answer.ensures.given
    (was_ok_with c.new_assignment.result _ c.in_ok-offer.offer (sym c.or_halt.ensures ∙ c.in_ok-offer.was) c.new_assignment.ensures.some)
    c.in_ok-answer.ensures.idle c.in_ok-answer.ensures.offered (nothing_took c.in_ok-answer.answer _ none)
    (λ moment later. nothing_took c.in_ok-answer.answer _ none)
    (λ stays. record { member = refl; tasks = refl; replicas = refl })

pub returns-clause-made : goal.returns-clause-made
returns-clause-made g c =
    let s = c.args.state.now in
    on_ok_weaker c.take_places.result
    (λ h. only_then (is_of_turn s.member.number s.member.instance) s.session.client.pass c.assignment_of.new.client.pass c.take_places.new.state.session.client.pass (c.in_ok-answer.ensures.made s.member.instance) h)
    c.take_places.ensures.made

pub returns-clause-placed : goal.returns-clause-placed
returns-clause-placed g c =
    let s = c.args.state.now in
    let n = c.take_places.new.state in
    let client = c.assignment_of.new.client in
    let ts = tasks (plan_in c.args.topology.now) in
    ok_four c.take_places.result
    (λ h kept restored member. placed g.W.Work.plan c.args.placing.now.threads ts s n c.args.told c.requires.status c.in_ok-offer.offer c.in_ok-answer.answer
    client.pass c.take_places.ensures.later.later
    (only_newer s.member n.member (max s.member.generation c.args.told.generation) member)
    (was_ok_with c.new_assignment.result _ c.in_ok-offer.offer (sym c.or_halt.ensures ∙ c.in_ok-offer.was) c.new_assignment.ensures.none)
    c.in_ok-answer.ensures.given
    (was_ok_with c.new_assignment.result _ c.in_ok-offer.offer (sym c.or_halt.ensures ∙ c.in_ok-offer.was) c.new_assignment.ensures.some)
    c.in_ok-answer.ensures.idle c.in_ok-answer.ensures.offered
    (took_it c.in_ok-answer.answer c.in-Some.assignment (λ a. HasTakenAll g.W.Work.plan ts c.args.told.generation a s n) c.in-Some.is
    (taken_all g.W.Work.plan ts c.args.told.generation c.in-Some.assignment s n client c.assignment_of.ensures.later member h kept restored))
    (λ moment later. took_it c.in_ok-answer.answer c.in-Some.assignment (λ a. HasTakenAll g.W.Work.plan ts c.args.told.generation a (at_moment s moment) n) c.in-Some.is
    (taken_all g.W.Work.plan ts c.args.told.generation c.in-Some.assignment (at_moment s moment) n client later member h kept restored))
    (none_stays c.in_ok-answer.answer c.in-Some.assignment c.in-Some.is))
    c.take_places.ensures.taken c.take_places.ensures.kept c.take_places.ensures.restored c.take_places.ensures.member
