use Rattle.std.proofs.Common.{refl, inl, sym, ap, ap₂, subst, ◌∙◌, ◌++◌}
use Rattle.ks_history.specs.State.{has_task}
use Rattle.ks_worker_client.proofs.Moments.{not_later}
use Rattle.ks_worker_state.specs.Names.{task_names, replica_names}
use Rattle.ks_worker_turn.specs.Held.{AreHeld}
use Rattle.ks_worker_turn.specs.Places.{is_placed}
use Rattle.ks_worker_turn.proofs.Requests.{turn_none}
use Rattle.ks_worker_turn.proofs.Taken.{placed_there}
use Rattle.ks_worker_turn.proofs.Listing.{among_itself}
use Rattle.ks_worker_turn.proofs.taking.take_missing.Goals as goal

pub returns-then-has_places-clause-made : goal.returns-then-has_places-clause-made
returns-then-has_places-clause-made g c = turn_none g.W.Work.plan c.args.state.now c.args.state.now (not_later g.W.Work.plan c.args.state.now.session.client.pass c.requires.may.call.history) refl

pub returns-then-has_places-clause-held : goal.returns-then-has_places-clause-held
returns-then-has_places-clause-held g c =
    let s = c.args.state.now in
    placed_there c.args.assignment.now s.member.number s _ c.requires.may.worker.once
    (subst (λ names. AreHeld (is_placed c.args.assignment.now s.member.number) names)
    (ap₂ (λ ts rs. task_names ts ++ replica_names rs) c.as_slice-tasks.ensures.value c.as_slice.ensures.value) (c.has_places.ensures.all c.if-has_places.true))

pub returns-then-has_places-clause-restored : goal.returns-then-has_places-clause-restored
returns-then-has_places-clause-restored g c = λ t there placed inside.
    inl (ap (λ ts. has_task t (task_names ts)) (sym c.as_slice-tasks.ensures.value) ∙ c.has_places.ensures.active c.if-has_places.true t placed)

pub returns-then-has_places-clause-kept : goal.returns-then-has_places-clause-kept
returns-then-has_places-clause-kept g c = among_itself c.args.state.now.tasks.items
