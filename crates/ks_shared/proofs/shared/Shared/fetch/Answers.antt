use Rattle.std.proofs.Common.{ap, refl, ◌∙◌}
use Rattle.ks_shared.proofs.Turns.{called_in, frame_here, begins_here, unchanged, same_grew}
use Rattle.ks_shared.proofs.Seen.{may_fetch_then}
use Rattle.ks_shared.proofs.shared.Shared.fetch.Goals as goal

pub leave-requires-clause-grown : goal.leave-requires-clause-grown
leave-requires-clause-grown g c = unchanged _ _ (ap (λ p. p.seen) c.enter-state.ensures.pass)

pub fetch-answer-requires : goal.fetch-answer-requires
fetch-answer-requires g c =
    let e = c.enter-state.ensures in
    may_fetch_then g.W.Work.plan _ _ c.deref.result.now (frame_here _ c.deref.result.now c.enter-state.result (c.deref.ensures ∙ c.state.view_is) e.frame) (begins_here _ c.deref.result.now c.enter-state.result (c.deref.ensures ∙ c.state.view_is) e.begins) _ _ _ c.requires.may

pub returns : goal.returns
returns g c =
    let e = c.enter-state.ensures in
    called_in g.W.Work.plan _ _ _ c.enter-state.result c.deref.result.now c.deref.result.now c.enter-state.result c.deref-2.result.now _ (c.deref.ensures ∙ c.state.view_is) (c.deref.ensures ∙ c.state.view_is) (c.deref-2.ensures ∙ c.state.view_is) c.requires.free e.pass e.begins e.frame e.reserved (refl, c.fetch-answer.ensures.records, c.fetch-answer.ensures.next) (same_grew c.deref.result.now) c.tell.ensures c.leave.ensures
