-- A cluster before its run, and after it.
use Rattle.std.specs.Prelude.{◌≡◌, ◌<◌, ◌≤◌, ℕ, List, [], ◌++◌, filter, length, Option}
use Rattle.ks_plan.specs.Drafts.{DraftView}
use Rattle.ks_plan.specs.Plan.{plan_of}
use Rattle.ks_plan.specs.Layout.{tasks}
use Rattle.ks_plan.specs.Infos.{changelog_numbers}
use Rattle.ks_assign.specs.declared.clients.Placing.{Placing}
use Rattle.ks_assign_group.specs.Groups.{good_by}
use Rattle.ks_cluster.specs.Placed.{PlacementTest}
use Rattle.ks_history.specs.Machine.{TaskPlan}
use Rattle.ks_cluster.specs.View.{ClusterView, setup_of}
use Rattle.ks_law_topology.specs.Work.{setup_of as topology_setup}
use Rattle.ks_def_tasks.specs.Rules.{HaveParts, rules_of}
use Rattle.ks_job.specs.Items.{ItemView, item_views}
use Rattle.ks_job_source.specs.declared.rest.JobEnd.{JobEnd}
use Rattle.ks_job_source.specs.Opening.{StandsPast, EndsFrom}
use Rattle.ks_law_inputs.specs.Records.{AreRecords}
use Rattle.ks_run_feed.specs.declared.feeding.JobInput.{JobInput}
use Rattle.ks_topo.specs.Places.{HasPlaces}
use Rattle.ks_run_feed.specs.Placing.{counts_in, placed_all}
use Rattle.ks_run_feed.specs.declared.feeding.JobFeed.{JobFeed}
use Rattle.ks_run_feed.specs.Producing.{IsFilled, begins_drain}
use Rattle.ks_shared.specs.Calls.{frame_of}
use Rattle.ks_law_settled.specs.Jobs.{produces}

-- a new cluster of the tasks of this topology, with this hash, whose assignments are good by this placing; all that comes of the job are records for
-- its topics
pub record IsReady {W : Type 0} (plan : W → TaskPlan) (good : W → PlacementTest) (hash : List ℕ → ℕ) (d : DraftView) (c : ClusterView W) (intake : JobInput) (placing : Placing) : Type 0 where
  pub new : c.journal ≡ []
  pub topology : setup_of plan c ≡ topology_setup (rules_of hash) (plan_of d)
  pub wanted : good c.work ≡ good_by (changelog_numbers (plan_of d)) (tasks (plan_of d)) placing
  pub nodes : HaveParts (plan_of d)
  pub counts_are : counts_in (plan_of d) ≡ c.counts
  pub places : (topic : ℕ) → topic < (plan c.work).sources → HasPlaces (plan_of d) topic
  pub records : AreRecords (plan c.work).sources (item_views intake.records.items)
  pub past : StandsPast (plan c.work).sources intake.rest.taken intake.rest.standing
  pub room : 1 ≤ length intake.rest.buf.items

-- the cluster has produced the records that came with the topology and those that came after it, and reading them ended so
pub record HasWorked {W : Type 0} (d : DraftView) (old new : ClusterView W) (intake : JobInput) (left now : Option (List ℕ)) (e : JobEnd) : Type 0 where
  pub items : List ItemView
  pub filled : IsFilled old new (placed_all (plan_of d) (item_views intake.records.items ++ items))
  pub ends : EndsFrom intake.rest.standing left now e items

-- the same, as the lock's end tells it: the cluster is of the frame that the lock had, and the first pass has seen what it has of the caller's entries
pub record HasClosed {W : Type 0} (d : DraftView) (first new : ClusterView W) (feeder : JobFeed W) (left now : Option (List ℕ)) (e : JobEnd) : Type 0 where
  pub items : List ItemView
  pub frame : frame_of new ≡ frame_of first
  pub produced : produces new.journal ≡ produces feeder.pass.seen ++ placed_all (plan_of d) (item_views feeder.records.items ++ items)
  pub undrained : filter begins_drain new.journal ≡ filter begins_drain feeder.pass.seen
  pub ends : EndsFrom feeder.rest.standing left now e items
