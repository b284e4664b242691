-- A feed: what it may be given, and what it has done when it ends.
use Rattle.std.specs.Prelude.{◌≡◌, ◌<◌, ◌≤◌, ℕ, List, ◌++◌, length, Option}
use Rattle.atomic_table.specs.Seated.{TableId}
use Rattle.ks_plan.specs.Drafts.{DraftView}
use Rattle.ks_plan.specs.Plan.{plan_of}
use Rattle.ks_topo.specs.Places.{HasPlaces}
use Rattle.ks_history.specs.Machine.{TaskPlan}
use Rattle.ks_growing.specs.Passes.{IsPass}
use Rattle.ks_shared.specs.Calls.{setup_in}
use Rattle.ks_job.specs.Items.{ItemView, item_views}
use Rattle.ks_law_inputs.specs.Records.{AreRecords}
use Rattle.ks_edge.specs.Causes.{Rose}
use Rattle.ks_job_source.specs.declared.rest.JobEnd.{JobEnd}
use Rattle.ks_job_source.specs.declared.rest.JobEnd.TheVariants.{Whole, Stopped, Failed}
use Rattle.ks_job_source.specs.Opening.{StandsPast, EndsFrom}
use Rattle.ks_run_feed.specs.declared.feeding.JobFeed.{JobFeed}
use Rattle.ks_run_feed.specs.Placing.{counts_in, placed_all}
use Rattle.ks_run_feed.specs.Producing.{HasProduced}

-- its pass is the first of this lock, round a cluster of this topology's topics, of which each has 1 to 64 partitions, and all that comes of
-- the job are records for them
pub record MayFeed {W : Type 0} (plan : W → TaskPlan) (lock : TableId) (d : DraftView) (f : JobFeed W) : Type 0 where
  pub pass : IsPass lock 0 f.pass
  pub counts : counts_in (plan_of d) ≡ (setup_in plan f.pass.frame).counts
  pub places : (topic : ℕ) → topic < (setup_in plan f.pass.frame).plan.sources → HasPlaces (plan_of d) topic
  pub records : AreRecords (setup_in plan f.pass.frame).plan.sources (item_views f.records.items)
  pub past : StandsPast (setup_in plan f.pass.frame).plan.sources f.rest.taken f.rest.standing
  pub room : 1 ≤ length f.rest.buf.items

-- a source's count of faults rose where it failed, and else is as it was
abbrev pub FaultsBy : JobEnd → ℕ → ℕ → Type 0
FaultsBy Whole before now = now ≡ before
FaultsBy (Stopped stop) before now = now ≡ before
FaultsBy Failed before now = Rose before now

-- all records that came with the topology and after it, up to the end, are produced
pub record HasFed {W : Type 0} (d : DraftView) (old new : JobFeed W) (left now : Option (List ℕ)) (e : JobEnd) : Type 0 where
  pub items : List ItemView
  pub produced : HasProduced old.pass new.pass (placed_all (plan_of d) (item_views old.records.items ++ items))
  pub ends : EndsFrom old.rest.standing left now e items
