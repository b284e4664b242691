use Rattle.std.proofs.Common.{subst}
use Rattle.ks_cluster.specs.View.{ClusterView}
use Rattle.ks_growing.specs.Passes.{Each, IsFresh}
use Rattle.ks_shared.specs.Calls.{frame_of}
use Rattle.ks_shared.proofs.shared.Shared.new.Goals as goal

pub returns-in-Ok-new-clause-fresh : goal.returns-in-Ok-new-clause-fresh
returns-in-Ok-new-clause-fresh g c =
    subst (λ (k : ClusterView g.row.W.Denot). Each (IsFresh c.in-Ok-new.growing.id k.journal (frame_of k)) c.in-Ok-new.passes.items) c.in-Ok.ensures.ok c.in-Ok-new.ensures.fresh
