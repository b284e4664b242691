use Rattle.ks_shared.proofs.Turns.{called_in}
use Rattle.ks_shared.proofs.shared.Shared.status.Goals as goal
use Rattle.std.proofs.Common.{ap, refl, ◌∙◌}
use Rattle.ks_shared.proofs.Turns.{unchanged, same_grew}

pub leave-requires-clause-grown : goal.leave-requires-clause-grown
leave-requires-clause-grown g c = unchanged _ _ (ap (λ p. p.seen) c.enter-state.ensures.pass)

pub returns : goal.returns
returns g c =
    let e = c.enter-state.ensures in
    called_in g.W.Work.plan _ _ _ c.enter-state.result c.deref.result.now c.deref.result.now c.enter-state.result c.deref-2.result.now _ (c.deref.ensures ∙ c.state.view_is) (c.deref.ensures ∙ c.state.view_is) (c.deref-2.ensures ∙ c.state.view_is) c.requires.free e.pass e.begins e.frame e.reserved (refl, c.status-answer.ensures) (same_grew c.deref.result.now) c.tell.ensures c.leave.ensures
