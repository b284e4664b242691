-- A cluster before its job is run: a new one of a topology's tasks.
use Rattle.std.specs.Prelude.{◌≡◌, ℕ, List, []}
use Rattle.ks_plan.specs.Drafts.{DraftView}
use Rattle.ks_plan.specs.Plan.{plan_of}
use Rattle.ks_assign.specs.declared.clients.Placing.{Placing}
use Rattle.ks_def_tasks.specs.Rules.{rules_of}
use Rattle.ks_history.specs.Machine.{TaskPlan}
use Rattle.ks_cluster.specs.Placed.{PlacementTest}
use Rattle.ks_cluster.specs.View.{ClusterView}
use Rattle.ks_cluster.specs.View as kept
use Rattle.ks_law_topology.specs.Work.{work_of, setup_of}
use Rattle.ks_run_feed.specs.Placing.{counts_in}
use Rattle.ks_run_end.specs.Ends.{IsWantedBy}

-- its work, its setup and its assignments are those that the topology and this placing want
pub record HasBegun {W : Type 0} (hash : List ℕ → ℕ) (plan : W → TaskPlan) (good : W → PlacementTest) (placing : Placing) (d : DraftView) (begun : ClusterView W) : Type 0 where
  pub new : begun.journal ≡ []
  pub work : plan begun.work ≡ work_of (rules_of hash) (plan_of d)
  pub start : kept.setup_of plan begun ≡ setup_of (rules_of hash) (plan_of d)
  pub wanted : IsWantedBy good begun.work d placing
  pub counts_are : counts_in (plan_of d) ≡ begun.counts
