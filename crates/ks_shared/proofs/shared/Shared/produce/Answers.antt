use Rattle.ks_shared.proofs.Turns.{called_in, seen_here}
use Rattle.ks_shared.proofs.shared.Shared.produce.Goals as goal
use Rattle.std.proofs.Common.{ap, refl, ◌∙◌}
use Rattle.ks_shared.proofs.Turns.{grown}

pub leave-requires-clause-grown : goal.leave-requires-clause-grown
leave-requires-clause-grown g c = grown _ c.deref_mut.result.now _ (seen_here _ c.deref_mut.result.now c.enter-state.result (c.deref_mut.ensures.value ∙ c.state.view_is) (ap (λ p. p.seen) c.enter-state.ensures.pass)) c.produce-answer.ensures.grew

pub returns : goal.returns
returns g c =
    let e = c.enter-state.ensures in
    called_in g.W.Work.plan _ _ _ c.enter-state.result c.deref_mut.result.now c.produce-answer.new.self c.produce-answer.new.self c.deref.result.now _ (c.deref_mut.ensures.value ∙ c.state.view_is) refl c.deref.ensures c.requires.free e.pass e.begins e.frame e.reserved (c.produce-answer.ensures.ok, c.produce-answer.ensures.err) c.produce-answer.ensures.grew c.tell.ensures c.leave.ensures
