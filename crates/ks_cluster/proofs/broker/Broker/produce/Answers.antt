use Rattle.std.proofs.Common.{refl}
use Rattle.ks_cluster.proofs.Steps.{produced}
use Rattle.ks_cluster.proofs.broker.Broker.produce.Goals as goal

pub returns-clause-ok : goal.returns-clause-ok
returns-clause-ok c =
    produced c.args.self.now _ c.args.part c.args.rec c.in_ok-offset.offset
    c.in_ok-offset.ensures.ok c.in_ok-offset.ensures.few refl c.in_ok-offset.ensures.at
