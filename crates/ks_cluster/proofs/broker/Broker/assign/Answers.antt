use Rattle.std.proofs.Common.{refl}
use Rattle.ks_cluster.proofs.Groups.{assign_step}
use Rattle.ks_cluster.proofs.broker.Broker.assign.Goals as goal

pub returns-clause-ok : goal.returns-clause-ok
returns-clause-ok c w =
    assign_step c.args.self.now _ w c.args.generation c.args.a.now c.in_ok-outcome.outcome c.in_ok-outcome.ensures.refused c.in_ok-outcome.ensures.truth c.in_ok-outcome.ensures.ok c.in_ok-outcome.ensures.same refl
