-- The topology of a worker.
use Rattle.std.specs.Prelude.{◌≡◌, ℕ, List}
use Rattle.ks_plan.specs.Plan.{plan_of}
use Rattle.ks_plan.specs.Drafts.{DraftView}
use Rattle.ks_history.specs.State.{Setup}
use Rattle.ks_law_topology.specs.Work.{setup_of}
use Rattle.ks_def_tasks.specs.Rules.{HaveParts, rules_of}

-- a cluster with this setup runs the tasks of this topology, with this hash
pub record RunsTopology (hash : List ℕ → ℕ) (d : DraftView) (setup : Setup) : Type 0 where
  pub parts : HaveParts (plan_of d)
  pub setup_is : setup ≡ setup_of (rules_of hash) (plan_of d)
