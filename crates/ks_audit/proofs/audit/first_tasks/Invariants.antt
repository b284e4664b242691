use Rattle.std.proofs.Common.{◌≡◌, ℕ, List, [], take}
use Rattle.ks_plan.specs.Layout.{tasks}
use Rattle.ks_topo.specs.Topologies.{draft_of, plan_in}
use Rattle.ks_def_tasks.specs.Rules.{rules_of}
use Rattle.ks_law_topology.specs.Work.{setup_of as topology_setup}
use Rattle.ks_audit.specs.Playing.{AreAudited, names_in}
use Rattle.ks_audit.proofs.audit.first_tasks.Given as goal

abbrev pub invariant-loop-i : goal.invariant-loop-i
invariant-loop-i l =
    (names_in l.all.items ≡ take l.i (tasks (plan_in l.topology)))
    × ((hash : List ℕ → ℕ) → AreAudited (draft_of l.topology) (topology_setup (rules_of hash) (plan_in l.topology)) [] l.all.items)
