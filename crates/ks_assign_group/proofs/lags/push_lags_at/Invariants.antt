use Rattle.std.proofs.Common.{◌≡◌, ◌++◌, drop}
use Rattle.ks_plan.specs.Infos.{changelog_numbers}
use Rattle.ks_topo.specs.Topologies.{plan_in}
use Rattle.ks_assign_group.specs.Groups.{lags_at}
use Rattle.ks_assign_group.proofs.lags.push_lags_at.Given as goal

abbrev pub invariant-loop-task : goal.invariant-loop-task
invariant-loop-task l =
    l.lags.items ++ lags_at (changelog_numbers (plan_in l.topology)) l.client (drop l.task-index l.tasks) l.status.held l.status.ends
    ≡ l.fn.lags.items ++ lags_at (changelog_numbers (plan_in l.topology)) l.client l.tasks l.status.held l.status.ends
