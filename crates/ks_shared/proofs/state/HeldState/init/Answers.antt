use Rattle.std.proofs.Common.{refl}
use Rattle.ks_history.specs.declared.journal.Request.TheVariants.{Init}
use Rattle.ks_history.specs.declared.journal.Reply.TheVariants.{Number}
use Rattle.ks_shared.proofs.Shelving.{shelf_by}
use Rattle.ks_shared.proofs.state.HeldState.init.Goals as goal

pub invariant_of-self : goal.invariant_of-self
invariant_of-self g c =
    shelf_by g.W.Work.plan c.self.inside.cluster c.init_own-answer.new.cluster (Init c.args.w) (λ n. Number n) c.self.inside.shelf c.init_own-answer.result refl
    c.init_own-answer.ensures.ok c.init_own-answer.ensures.err (g.met.W.Work.network _) c.is_history.ensures.history c.self.invariant
