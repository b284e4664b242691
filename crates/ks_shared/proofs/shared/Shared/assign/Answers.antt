use Rattle.std.proofs.Common.{refl, ◌∙◌}
use Rattle.ks_shared.proofs.Turns.{called_in, frame_here, begins_here, grows_grew}
use Rattle.ks_shared.proofs.Seen.{good_then}
use Rattle.ks_shared.proofs.shared.Shared.assign.Goals as goal

pub assign-answer-requires-clause-good : goal.assign-answer-requires-clause-good
assign-answer-requires-clause-good g c =
    let e = c.enter-state.ensures in
    good_then g.W.Work.plan _ _ c.deref_mut.result.now (frame_here _ c.deref_mut.result.now c.enter-state.result (c.deref_mut.ensures.value ∙ c.state.view_is) e.frame) (begins_here _ c.deref_mut.result.now c.enter-state.result (c.deref_mut.ensures.value ∙ c.state.view_is) e.begins) g.W.Work.good c.args.generation c.args.a.now c.requires.good

pub returns : goal.returns
returns g c =
    let e = c.enter-state.ensures in
    called_in g.W.Work.plan _ _ _ c.enter-state.result c.deref_mut.result.now c.assign-answer.new.self c.assign-answer.new.self c.deref.result.now _ (c.deref_mut.ensures.value ∙ c.state.view_is) refl c.deref.ensures c.requires.free e.pass e.begins e.frame e.reserved (c.assign-answer.ensures.ok, c.assign-answer.ensures.err) (grows_grew c.deref_mut.result.now c.assign-answer.new.self c.assign-answer.ensures.grows) c.tell.ensures c.leave.ensures
