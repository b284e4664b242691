use Rattle.std.proofs.Common.{sym, subst}
use Rattle.ks_cluster.specs.Moves.{IsNew}
use Rattle.ks_cluster.specs.View.{IsCluster}
use Rattle.ks_cluster.proofs.Placed.{new_cluster}
use Rattle.ks_cluster.proofs.cluster.Cluster.new.Goals as goal

pub invariant_of-result : goal.invariant_of-result
invariant_of-result g c =
    let plan = g.W.Work.plan c.args.work in
    let new = subst (λ ts. IsNew plan ts c.in_ok-broker.broker) c.as_slice.ensures.value c.in_ok-broker.ensures in
    subst (λ j. IsCluster plan (g.W.Work.good c.args.work) c.args.parts.items j c.in_ok-broker.broker) (sym c.new-2.ensures.items)
    (new_cluster plan (g.W.Work.good c.args.work) c.args.parts.items c.args.tasks.items c.in_ok-broker.broker new)
