use Rattle.std.proofs.Common.{refl, ◌∙◌}
use Rattle.ks_shared.proofs.Turns.{called_in, grows_grew}
use Rattle.ks_shared.proofs.shared.Shared.probe.Goals as goal

pub returns : goal.returns
returns g c =
    let e = c.enter-state.ensures in
    called_in g.W.Work.plan _ _ _ c.enter-state.result c.deref_mut.result.now c.probe-answer.new.self c.probe-answer.new.self c.deref.result.now _ (c.deref_mut.ensures.value ∙ c.state.view_is) refl c.deref.ensures c.requires.free e.pass e.begins e.frame e.reserved (c.probe-answer.ensures.ok, c.probe-answer.ensures.err) (grows_grew c.deref_mut.result.now c.probe-answer.new.self c.probe-answer.ensures.grows) c.tell.ensures c.leave.ensures
