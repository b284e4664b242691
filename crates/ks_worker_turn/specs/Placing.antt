-- Assignments that a worker may give its generation (KIP-441).
use Rattle.std.specs.Prelude.{◌≡◌, ◌≤◌, ℕ, true, Option, List}
use Rattle.ks_record.specs.declared.assignment.Assignment.{Assignment}
use Rattle.ks_record.specs.declared.record.PartId.{PartId}
use Rattle.ks_record.specs.declared.record.TaskId.{TaskId}
use Rattle.ks_plan.specs.Drafts.{DraftView}
use Rattle.ks_plan.specs.Infos.{changelog_numbers}
use Rattle.ks_plan.specs.Layout.{tasks}
use Rattle.ks_plan.specs.Plan.{plan_of}
use Rattle.ks_history.specs.declared.journal.Status.{Status}
use Rattle.ks_history.specs.Machine.{TaskPlan}
use Rattle.ks_cluster.specs.Placed.{PlacementTest, is_good_by}
use Rattle.ks_shared.specs.declared.state.Frame.{Frame}
use Rattle.ks_shared.specs.Calls.{setup_in, good_in}
use Rattle.ks_assign.specs.declared.clients.Placing.{Placing}
use Rattle.ks_assign_group.specs.Groups.{good_by}
use Rattle.ks_assign_group.specs.Laws.{ArePlaces}

-- what is good by this placing is good by the cluster's work
pub record PlacesBy {W : Type 0} (good : W → PlacementTest) (placing : Placing) (d : DraftView) (frame : Option (Frame W)) : Type 0 where
  pub threads : 1 ≤ placing.threads
  pub serves : (members : List ℕ) (held : List (ℕ × TaskId × ℕ)) (ends : List (PartId × ℕ)) (a : Assignment) →
      good_by (changelog_numbers (plan_of d)) (tasks (plan_of d)) placing members held ends a ≡ true → good_in good frame members held ends a ≡ true

-- the generation that a status told may be offered this assignment: it is good by what the status told, and its places are the cluster's
pub record MayOffer {W : Type 0} (plan : W → TaskPlan) (good : W → PlacementTest) (frame : Option (Frame W)) (told : Status) (a : Assignment) : Type 0 where
  pub good_is : is_good_by (good_in good frame) told a ≡ true
  pub places : ArePlaces (setup_in plan frame) a
