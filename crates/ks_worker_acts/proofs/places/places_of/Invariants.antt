use Rattle.std.proofs.Common.{◌≡◌, ◌++◌, drop}
use Rattle.ks_plan.specs.Infos.{input_numbers}
use Rattle.ks_topo.specs.Topologies.{plan_in}
use Rattle.ks_worker_acts.specs.Inputs.{places_from}
use Rattle.ks_worker_acts.proofs.places.places_of.Given as goal

-- what is there, and what the tasks that are left give, are all
abbrev pub invariant-loop-i : goal.invariant-loop-i
invariant-loop-i l = l.places.items ++ places_from (input_numbers (plan_in l.topology)) l.i (drop l.i l.tasks) ≡ places_from (input_numbers (plan_in l.topology)) 0 l.tasks
