use Rattle.std.proofs.Common.{refl}
use Rattle.ks_history.specs.declared.journal.Request.TheVariants.{Expire}
use Rattle.ks_history.specs.declared.journal.Reply.TheVariants.{Truth}
use Rattle.ks_shared.proofs.Shelving.{shelf_by}
use Rattle.ks_shared.proofs.state.HeldState.expire.Goals as goal

pub invariant_of-self : goal.invariant_of-self
invariant_of-self g c =
    shelf_by g.W.Work.plan c.self.inside.cluster c.expire-answer.new.self (Expire c.args.w) (λ b. Truth b) c.self.inside.shelf c.expire-answer.result refl
    c.expire-answer.ensures.ok c.expire-answer.ensures.err (g.met.W.Work.network _) c.is_history.ensures.history c.self.invariant
