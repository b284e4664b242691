use Rattle.std.proofs.Common.{refl}
use Rattle.ks_cluster.proofs.Groups.{mark_done}
use Rattle.ks_cluster.proofs.broker.Broker.mark_next.Goals as goal

pub returns-clause-ok : goal.returns-clause-ok
returns-clause-ok c =
    mark_done c.args.self.now _ c.args.w c.in-Some.marker c.requires c.in-Some.ensures c.in_ok-mark.ensures.ok c.in_ok-mark.ensures.few c.marked.ensures refl
