use Rattle.std.proofs.Common.{ap, ◌∙◌, refl}
use Rattle.ks_shared.proofs.Turns.{called_in, seen_here, grown, unreserved}
use Rattle.ks_shared.proofs.shared.Shared.init.Goals as goal

pub leave-requires-clause-grown : goal.leave-requires-clause-grown
leave-requires-clause-grown g c = grown _ c.deref_mut.result.now _ (seen_here _ c.deref_mut.result.now c.enter-state.result (c.deref_mut.ensures.value ∙ c.state.view_is) (ap (λ p. p.seen) c.enter-state.ensures.pass)) c.init-answer.ensures.grew

pub leave-requires-clause-reserved : goal.leave-requires-clause-reserved
leave-requires-clause-reserved g c other =
    let e = c.enter-state.ensures in
    unreserved _ c.deref_mut.result.now _ (seen_here _ c.deref_mut.result.now c.enter-state.result (c.deref_mut.ensures.value ∙ c.state.view_is) (ap (λ p. p.seen) e.pass)) (c.init-answer.ensures.grows (λ is. other (ap (λ p. p.number) e.pass ∙ c.requires.callers is)))

pub returns : goal.returns
returns g c =
    let e = c.enter-state.ensures in
    called_in g.W.Work.plan _ _ _ c.enter-state.result c.deref_mut.result.now c.init-answer.new.self c.init-answer.new.self c.deref.result.now _ (c.deref_mut.ensures.value ∙ c.state.view_is) refl c.deref.ensures c.requires.free e.pass e.begins e.frame e.reserved (c.init-answer.ensures.ok, c.init-answer.ensures.last, c.init-answer.ensures.err, c.init-answer.ensures.last_stays) c.init-answer.ensures.grew c.tell.ensures c.leave.ensures
