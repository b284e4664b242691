use Rattle.std.proofs.Common.{refl}
use Rattle.ks_history.specs.declared.journal.Request.TheVariants.{Add}
use Rattle.ks_history.specs.declared.journal.Reply.TheVariants.{Done}
use Rattle.ks_shared.proofs.Shelving.{shelf_own}
use Rattle.ks_shared.proofs.state.HeldState.add.Goals as goal

pub invariant_of-self : goal.invariant_of-self
invariant_of-self g c =
    shelf_own g.W.Work.plan c.self.inside.cluster c.add_own-answer.new.cluster _ _ _ (Add c.args.w c.args.epoch c.args.part) (λ u. Done) c.self.inside.shelf c.add_own-answer.result refl
    c.add_own-answer.ensures.ok c.add_own-answer.ensures.err (g.met.W.Work.network _) c.is_history.ensures.history c.self.invariant
