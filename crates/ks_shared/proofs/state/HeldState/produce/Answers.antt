use Rattle.std.proofs.Common.{refl}
use Rattle.ks_history.specs.declared.journal.Request.TheVariants.{Produce}
use Rattle.ks_history.specs.declared.journal.Reply.TheVariants.{Number}
use Rattle.ks_shared.proofs.Shelving.{shelf_by}
use Rattle.ks_shared.proofs.state.HeldState.produce.Goals as goal

pub invariant_of-self : goal.invariant_of-self
invariant_of-self g c =
    shelf_by g.W.Work.plan c.self.inside.cluster c.produce-answer.new.self (Produce c.args.part c.args.rec.now) (λ n. Number n) c.self.inside.shelf c.produce-answer.result refl
    c.produce-answer.ensures.ok c.produce-answer.ensures.err (g.met.W.Work.network _) c.is_history.ensures.history c.self.invariant
