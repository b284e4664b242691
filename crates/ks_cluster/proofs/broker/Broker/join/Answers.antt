use Rattle.std.proofs.Common.{refl}
use Rattle.ks_cluster.proofs.Groups.{joined_moves}
use Rattle.ks_cluster.proofs.broker.Broker.join.Goals as goal

pub returns-clause-ok : goal.returns-clause-ok
returns-clause-ok c = joined_moves c.args.self.now _ c.args.w c.in_ok-generation.generation c.in_ok-generation.ensures.generation c.in_ok-generation.ensures.ok refl
