use Rattle.std.proofs.Common.{refl}
use Rattle.ks_history.specs.declared.journal.Request.TheVariants.{Assign}
use Rattle.ks_cluster.specs.Replies.{truth_or}
use Rattle.ks_shared.proofs.Shelving.{shelf_by}
use Rattle.ks_shared.proofs.state.HeldState.assign.Goals as goal

pub invariant_of-self : goal.invariant_of-self
invariant_of-self g c =
    shelf_by g.W.Work.plan c.self.inside.cluster c.assign-answer.new.self (Assign c.args.w c.args.generation c.args.a.now) (λ r. truth_or r) c.self.inside.shelf c.assign-answer.result refl
    c.assign-answer.ensures.ok c.assign-answer.ensures.err (g.met.W.Work.network _) c.is_history.ensures.history c.self.invariant
