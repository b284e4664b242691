use Rattle.std.proofs.Common.{◌≡◌, ◌∙◌, subst}
use Rattle.ks_history.specs.Reads.{pending_producers, pending_from}
use Rattle.ks_cluster.specs.Statuses.{with_producers}
use Rattle.ks_cluster.specs.View.{state_of}
use Rattle.ks_cluster.proofs.Readings.{pending-are}
use Rattle.ks_cluster.proofs.cluster.Cluster.pending.Goals as goal

pub returns : goal.returns
returns g c =
    c.pending_count.ensures
    ∙ subst (λ v. pending_from (with_producers c.self.inside.broker.txns) 0 17 ≡ pending_producers (state_of g.W.Work.plan v)) c.self.view_is (pending-are _ _ c.self.inside.broker c.self.invariant.follows.stands)
