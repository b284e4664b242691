use Rattle.std.proofs.Common.{refl}
use Rattle.ks_history.specs.declared.journal.Request.TheVariants.{Append}
use Rattle.ks_history.specs.declared.journal.Reply.TheVariants.{Number}
use Rattle.ks_shared.proofs.Shelving.{shelf_own}
use Rattle.ks_shared.proofs.state.HeldState.append.Goals as goal

pub invariant_of-self : goal.invariant_of-self
invariant_of-self g c =
    shelf_own g.W.Work.plan c.self.inside.cluster c.append_own-answer.new.cluster _ _ _ (Append c.args.w c.args.epoch c.args.number c.args.task c.args.part c.args.recs.now) (λ n. Number n) c.self.inside.shelf c.append_own-answer.result refl
    c.append_own-answer.ensures.ok c.append_own-answer.ensures.err (g.met.W.Work.network _) c.is_history.ensures.history c.self.invariant
