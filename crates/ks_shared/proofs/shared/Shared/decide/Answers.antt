use Rattle.std.proofs.Common.{refl, sym, ◌∙◌}
use Rattle.ks_shared.proofs.Turns.{called_in, frame_here, begins_here, told_here, grows_grew}
use Rattle.ks_shared.proofs.Seen.{decides_then}
use Rattle.ks_shared.proofs.shared.Shared.decide.Goals as goal

pub decide-answer-requires-clause-faithful : goal.decide-answer-requires-clause-faithful
decide-answer-requires-clause-faithful g c =
    let e = c.enter-state.ensures in
    decides_then g.W.Work.plan _ _ c.deref_mut.result.now (frame_here _ c.deref_mut.result.now c.enter-state.result (c.deref_mut.ensures.value ∙ c.state.view_is) e.frame) (begins_here _ c.deref_mut.result.now c.enter-state.result (c.deref_mut.ensures.value ∙ c.state.view_is) e.begins) _ _ _ _ (told_here g.W.Work.plan c.deref.result.now c.deref_mut.result.now (c.deref.ensures ∙ sym c.deref_mut.ensures.value) c.tell.ensures) (g.met.W.Work.network _) c.requires.within c.requires.faithful

pub returns : goal.returns
returns g c =
    let e = c.enter-state.ensures in
    called_in g.W.Work.plan _ _ _ c.enter-state.result c.deref_mut.result.now c.decide-answer.new.self c.decide-answer.new.self c.deref-2.result.now _ (c.deref_mut.ensures.value ∙ c.state.view_is) refl c.deref-2.ensures c.requires.free e.pass e.begins e.frame e.reserved (c.decide-answer.ensures.ok, c.decide-answer.ensures.err, c.decide-answer.ensures.last_stays) (grows_grew c.deref_mut.result.now c.decide-answer.new.self c.decide-answer.ensures.grows) c.tell-2.ensures c.leave.ensures
