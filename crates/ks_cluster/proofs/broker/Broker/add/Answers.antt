use Rattle.std.proofs.Common.{refl}
use Rattle.ks_cluster.proofs.Steps.{add_step}
use Rattle.ks_cluster.proofs.broker.Broker.add.Goals as goal

pub returns-clause-ok : goal.returns-clause-ok
returns-clause-ok c = add_step c.args.self.now _ c.args.w c.args.epoch c.args.part c.in_ok-outcome.outcome c.requires c.in_ok-outcome.ensures.ok c.in_ok-outcome.ensures.producers refl
