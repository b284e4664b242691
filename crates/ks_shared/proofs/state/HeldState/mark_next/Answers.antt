use Rattle.std.proofs.Common.{refl}
use Rattle.ks_history.specs.declared.journal.Request.TheVariants.{MarkNext}
use Rattle.ks_history.specs.declared.journal.Reply.TheVariants.{Mark as Marked}
use Rattle.ks_shared.proofs.Shelving.{shelf_by}
use Rattle.ks_shared.proofs.state.HeldState.mark_next.Goals as goal

pub invariant_of-self : goal.invariant_of-self
invariant_of-self g c =
    shelf_by g.W.Work.plan c.self.inside.cluster c.mark_next-answer.new.self (MarkNext c.args.w) (λ m. Marked m) c.self.inside.shelf c.mark_next-answer.result refl
    c.mark_next-answer.ensures.ok c.mark_next-answer.ensures.err (g.met.W.Work.network _) c.is_history.ensures.history c.self.invariant
