use Rattle.std.proofs.Common.{refl}
use Rattle.ks_history.specs.declared.journal.Request.TheVariants.{Join}
use Rattle.ks_history.specs.declared.journal.Reply.TheVariants.{Number}
use Rattle.ks_shared.proofs.Shelving.{shelf_by}
use Rattle.ks_shared.proofs.state.HeldState.join.Goals as goal

pub invariant_of-self : goal.invariant_of-self
invariant_of-self g c =
    shelf_by g.W.Work.plan c.self.inside.cluster c.join-answer.new.self (Join c.args.w) (λ n. Number n) c.self.inside.shelf c.join-answer.result refl
    c.join-answer.ensures.ok c.join-answer.ensures.err (g.met.W.Work.network _) c.is_history.ensures.history c.self.invariant
