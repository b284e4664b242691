use Rattle.std.proofs.Common.{refl, sym, ◌∙◌}
use Rattle.ks_shared.proofs.Turns.{called_in, frame_here, begins_here, told_here, grows_grew}
use Rattle.ks_shared.proofs.Seen.{follows_then}
use Rattle.ks_shared.proofs.shared.Shared.park.Goals as goal

pub park-answer-requires-clause-follows : goal.park-answer-requires-clause-follows
park-answer-requires-clause-follows g c =
    let e = c.enter-state.ensures in
    follows_then g.W.Work.plan _ _ c.deref_mut.result.now (frame_here _ c.deref_mut.result.now c.enter-state.result (c.deref_mut.ensures.value ∙ c.state.view_is) e.frame) (begins_here _ c.deref_mut.result.now c.enter-state.result (c.deref_mut.ensures.value ∙ c.state.view_is) e.begins) _ _ (told_here g.W.Work.plan c.deref.result.now c.deref_mut.result.now (c.deref.ensures ∙ sym c.deref_mut.ensures.value) c.tell.ensures) (g.met.W.Work.network _) c.requires.follows

pub returns : goal.returns
returns g c =
    let e = c.enter-state.ensures in
    called_in g.W.Work.plan _ _ _ c.enter-state.result c.deref_mut.result.now c.park-answer.new.self c.park-answer.new.self c.deref-2.result.now _ (c.deref_mut.ensures.value ∙ c.state.view_is) refl c.deref-2.ensures c.requires.free e.pass e.begins e.frame e.reserved (c.park-answer.ensures.ok, c.park-answer.ensures.err) (grows_grew c.deref_mut.result.now c.park-answer.new.self c.park-answer.ensures.grows) c.tell-2.ensures c.leave.ensures
