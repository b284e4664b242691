use Rattle.std.proofs.Common.{refl, ap}
use Rattle.ks_cluster.proofs.Groups.{parked_moves}
use Rattle.ks_cluster.proofs.broker.Broker.park.Goals as goal

pub returns-clause-ok : goal.returns-clause-ok
returns-clause-ok c = parked_moves c.args.self.now _ c.args.instance c.args.task (ap (λ l. record c.args.self.now { parked = l }) c.in_ok-push.ensures.ok)
