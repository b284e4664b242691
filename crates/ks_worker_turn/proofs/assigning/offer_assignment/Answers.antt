use Rattle.std.proofs.Common.{ap, subst, ◌∙◌, Ok, refl, sym}
use Rattle.ks_history.specs.declared.journal.Request.TheVariants.{Assign}
use Rattle.ks_cluster.specs.Replies.{truth_or}
use Rattle.ks_worker_client.specs.Calls.{Wrote}
use Rattle.ks_worker_turn.proofs.Assigned.{taken_so}
use Rattle.std.proofs.lemmas.Bool.{eq-eqb}
use Rattle.ks_worker_state.proofs.Gains.{only_one}
use Rattle.ks_worker_turn.specs.Requests.{is_of_turn}
use Rattle.ks_worker_turn.proofs.Offered.{offered_now, not_taken, was_refused, was_taken}
use Rattle.ks_worker_turn.proofs.assigning.offer_assignment.Goals as goal

pub returns-clause-told : goal.returns-clause-told
returns-clause-told g c =
    taken_so g.W.Work.plan c.args.client.now.pass c.assign.new.self.pass c.assign.ensures.later c.args.number c.args.generation c.args.assignment
    (subst (λ n. Wrote g.W.Work.plan c.args.client.now.pass c.assign.new.self.pass (Assign c.args.number c.args.generation c.args.assignment) (truth_or n)) (c.in-Ok.is ∙ ap Ok c.if-not-taken.false) c.in_ok-answer.ensures.wrote)

pub returns-clause-made : goal.returns-clause-made
returns-clause-made g c = λ instance.
    only_one g.W.Work.plan (is_of_turn c.args.number instance) c.args.client.now.pass c.assign.new.self.pass (Assign c.args.number c.args.generation c.args.assignment) (truth_or c.in_ok-answer.answer) (eq-eqb c.args.number c.args.number refl) c.in_ok-answer.ensures.wrote

pub returns-clause-offered : goal.returns-clause-offered
returns-clause-offered g c =
    offered_now g.W.Work.plan c.args.client.now.pass c.assign.new.self.pass c.args.number c.args.generation c.args.assignment (truth_or c.in_ok-answer.answer) _ _ c.assign.ensures.later c.in_ok-answer.ensures.wrote (λ e. refl)
    (was_taken c.in_ok-answer.answer c.in-Ok.taken c.in-Ok.is c.if-not-taken.false)

pub returns-then-not-taken-clause-made : goal.returns-then-not-taken-clause-made
returns-then-not-taken-clause-made g c = λ instance.
    only_one g.W.Work.plan (is_of_turn c.args.number instance) c.args.client.now.pass c.assign.new.self.pass (Assign c.args.number c.args.generation c.args.assignment) (truth_or c.in_ok-answer.answer) (eq-eqb c.args.number c.args.number refl) c.in_ok-answer.ensures.wrote

pub returns-then-not-taken-clause-offered : goal.returns-then-not-taken-clause-offered
returns-then-not-taken-clause-offered g c =
    offered_now g.W.Work.plan c.args.client.now.pass c.assign.new.self.pass c.args.number c.args.generation c.args.assignment (truth_or c.in_ok-answer.answer) _ _ c.assign.ensures.later c.in_ok-answer.ensures.wrote (λ e. absurd (not_taken c.in_ok-answer.answer c.in-Ok.taken c.in-Ok.is c.if-not-taken.true e)) (λ e. refl)

pub returns-in_default-clause-made : goal.returns-in_default-clause-made
returns-in_default-clause-made g c = λ instance.
    only_one g.W.Work.plan (is_of_turn c.args.number instance) c.args.client.now.pass c.assign.new.self.pass (Assign c.args.number c.args.generation c.args.assignment) (truth_or c.in_ok-answer.answer) (eq-eqb c.args.number c.args.number refl) c.in_ok-answer.ensures.wrote

pub returns-in_default-clause-offered : goal.returns-in_default-clause-offered
returns-in_default-clause-offered g c =
    offered_now g.W.Work.plan c.args.client.now.pass c.assign.new.self.pass c.args.number c.args.generation c.args.assignment (truth_or c.in_ok-answer.answer) _ _ c.assign.ensures.later c.in_ok-answer.ensures.wrote (λ e. absurd (was_refused c.in_ok-answer.answer c.in_default.not-Ok e)) (λ e. refl)
