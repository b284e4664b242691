use Rattle.std.proofs.Common.{refl}
use Rattle.ks_history.specs.declared.journal.Request.TheVariants.{Probe}
use Rattle.ks_cluster.specs.Replies.{number_or}
use Rattle.ks_shared.proofs.Shelving.{shelf_by}
use Rattle.ks_shared.proofs.state.HeldState.probe.Goals as goal

pub invariant_of-self : goal.invariant_of-self
invariant_of-self g c =
    shelf_by g.W.Work.plan c.self.inside.cluster c.probe-answer.new.self (Probe c.args.w c.args.generation) (λ r. number_or r) c.self.inside.shelf c.probe-answer.result refl
    c.probe-answer.ensures.ok c.probe-answer.ensures.err (g.met.W.Work.network _) c.is_history.ensures.history c.self.invariant
