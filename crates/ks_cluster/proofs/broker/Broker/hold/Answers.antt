use Rattle.std.proofs.Common.{refl, ap}
use Rattle.ks_cluster.proofs.Groups.{held_moves}
use Rattle.ks_cluster.proofs.broker.Broker.hold.Goals as goal

pub returns-clause-ok : goal.returns-clause-ok
returns-clause-ok c = held_moves c.args.self.now _ c.args.w c.args.held.now c.requires c.in_ok-hold.ensures.ok refl
