use Rattle.std.proofs.Common.{◌≡◌, ◌++◌, take}
use Rattle.ks_plan.specs.Infos.{changelog_numbers}
use Rattle.ks_topo.specs.Topologies.{plan_in}
use Rattle.ks_worker_acts.specs.Telling.{task_positions}
use Rattle.ks_worker_acts.proofs.probing.push_tasks.Given as goal

-- the tasks so far stand there
abbrev pub invariant-loop-i : goal.invariant-loop-i
invariant-loop-i l = l.held.items ≡ l.fn.held.items ++ task_positions (changelog_numbers (plan_in l.topology)) (take l.i l.tasks)
