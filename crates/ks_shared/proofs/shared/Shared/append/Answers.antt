use Rattle.std.proofs.Common.{refl, ◌∙◌}
use Rattle.ks_shared.proofs.Turns.{called_in, grows_grew}
use Rattle.ks_shared.proofs.shared.Shared.append.Goals as goal

pub returns : goal.returns
returns g c =
    let e = c.enter-state.ensures in
    called_in g.W.Work.plan _ _ _ c.enter-state.result c.deref_mut.result.now c.append-answer.new.self c.append-answer.new.self c.deref.result.now _ (c.deref_mut.ensures.value ∙ c.state.view_is) refl c.deref.ensures c.requires.free e.pass e.begins e.frame e.reserved (c.append-answer.ensures.ok, c.append-answer.ensures.err, c.append-answer.ensures.last_stays) (grows_grew c.deref_mut.result.now c.append-answer.new.self c.append-answer.ensures.grows) c.tell.ensures c.leave.ensures
