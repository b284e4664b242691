use Rattle.std.proofs.Common.{refl, ◌∙◌}
use Rattle.ks_shared.proofs.Turns.{called_in, grows_grew}
use Rattle.ks_shared.proofs.shared.Shared.mark_next.Goals as goal

pub returns : goal.returns
returns g c =
    let e = c.enter-state.ensures in
    called_in g.W.Work.plan _ _ _ c.enter-state.result c.deref_mut.result.now c.mark_next-answer.new.self c.mark_next-answer.new.self c.deref.result.now _ (c.deref_mut.ensures.value ∙ c.state.view_is) refl c.deref.ensures c.requires.free e.pass e.begins e.frame e.reserved (c.mark_next-answer.ensures.ok, c.mark_next-answer.ensures.err) (grows_grew c.deref_mut.result.now c.mark_next-answer.new.self c.mark_next-answer.ensures.grows) c.tell.ensures c.leave.ensures
