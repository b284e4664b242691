use Rattle.std.proofs.Common.{refl}
use Rattle.ks_cluster.proofs.Steps.{renewed_moves}
use Rattle.ks_cluster.proofs.broker.Broker.init.Goals as goal

pub returns-clause-ok : goal.returns-clause-ok
returns-clause-ok c = renewed_moves c.args.self.now _ c.args.w _ c.requires c.init.ensures.epoch c.init.ensures.producers c.resolve.ensures refl
