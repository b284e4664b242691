use Rattle.std.proofs.Common.{refl}
use Rattle.ks_cluster.proofs.Groups.{probe_step}
use Rattle.ks_cluster.proofs.broker.Broker.probe.Goals as goal

pub returns-clause-ok : goal.returns-clause-ok
returns-clause-ok c w = probe_step c.args.self.now _ w c.args.generation c.probe.result c.probe.ensures.refused c.probe.ensures.generation c.probe.ensures.ok c.probe.ensures.err refl
