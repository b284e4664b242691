use Rattle.std.proofs.Common.{refl}
use Rattle.ks_history.specs.declared.journal.Request.TheVariants.{Hold}
use Rattle.ks_history.specs.declared.journal.Reply.TheVariants.{Done}
use Rattle.ks_shared.proofs.Shelving.{shelf_by}
use Rattle.ks_shared.proofs.state.HeldState.hold.Goals as goal

pub invariant_of-self : goal.invariant_of-self
invariant_of-self g c =
    shelf_by g.W.Work.plan c.self.inside.cluster c.hold-answer.new.self (Hold c.args.w c.args.held.now) (λ u. Done) c.self.inside.shelf c.hold-answer.result refl
    c.hold-answer.ensures.ok c.hold-answer.ensures.err (g.met.W.Work.network _) c.is_history.ensures.history c.self.invariant
