use Rattle.std.proofs.Common.{◌≡◌, ◌++◌, drop}
use Rattle.ks_plan.specs.Infos.{changelog_numbers}
use Rattle.ks_topo.specs.Topologies.{plan_in}
use Rattle.ks_assign_group.specs.Groups.{lags_in}
use Rattle.ks_assign_group.proofs.lags.lags_in.Given as goal

abbrev pub invariant-loop-client : goal.invariant-loop-client
invariant-loop-client l =
    l.lags.items ++ lags_in (changelog_numbers (plan_in l.topology)) (drop l.client-index l.clients) l.tasks l.status.held l.status.ends
    ≡ lags_in (changelog_numbers (plan_in l.topology)) l.clients l.tasks l.status.held l.status.ends
