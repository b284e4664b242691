-- Two workers at one cluster.
use Rattle.std.specs.Prelude.{◌≡◌, ◌≤◌, ◌<◌, ℕ, List, []}
use Rattle.ks_assign.specs.declared.clients.Placing.{Placing}
use Rattle.ks_plan.specs.Drafts.{DraftView}
use Rattle.ks_plan.specs.Infos.{changelog_numbers}
use Rattle.ks_plan.specs.Layout.{tasks}
use Rattle.ks_plan.specs.Plan.{plan_of}
use Rattle.ks_history.specs.Machine.{TaskPlan}
use Rattle.ks_cluster.specs.Placed.{PlacementTest}
use Rattle.ks_cluster.specs.View.{ClusterView, setup_of}
use Rattle.ks_law_topology.specs.Work.{setup_of as topology_setup}
use Rattle.ks_def_tasks.specs.Rules.{HaveParts, rules_of}
use Rattle.ks_job.specs.Items.{ItemView}
use Rattle.ks_law_inputs.specs.Records.{AreRecords}
use Rattle.ks_assign_group.specs.Groups.{good_by}
use Rattle.ks_topo.specs.Places.{HasPlaces}
use Rattle.ks_run_feed.specs.Placing.{counts_in}

-- a new cluster of the tasks of this topology, with this hash and this placing; the items are records for its topics
pub record IsReady {W : Type 0} (plan : W → TaskPlan) (good : W → PlacementTest) (hash : List ℕ → ℕ) (d : DraftView) (placing : Placing) (c : ClusterView W) (is : List ItemView) : Type 0 where
  pub new : c.journal ≡ []
  pub topology : setup_of plan c ≡ topology_setup (rules_of hash) (plan_of d)
  pub nodes : HaveParts (plan_of d)
  pub threads : 1 ≤ placing.threads
  pub test : good c.work ≡ good_by (changelog_numbers (plan_of d)) (tasks (plan_of d)) placing
  pub counts_are : counts_in (plan_of d) ≡ c.counts
  pub places : (topic : ℕ) → topic < (plan c.work).sources → HasPlaces (plan_of d) topic
  pub records : AreRecords (plan c.work).sources is
