-- What a call through the lock is: entries of others, and then its own.
use Rattle.std.specs.Prelude.{◌≡◌, ◌+◌, ◌-◌, false, List, [], ◌++◌, length, filter, Option, Some, None}
use Rattle.ks_history.specs.declared.journal.Entry.{Entry}
use Rattle.ks_history.specs.Machine.{TaskPlan}
use Rattle.ks_history.specs.State.{Setup}
use Rattle.ks_history.specs.History.{IsHistory}
use Rattle.ks_cluster.specs.Placed.{PlacementTest}
use Rattle.ks_cluster.specs.View.{ClusterView, setup_of, setup_from}
use Rattle.ks_growing.specs.Passes.{PassView}
use Rattle.ks_shared.specs.declared.state.Frame.{Frame}
use Rattle.ks_shared.specs.Reserved.{is_callers}

abbrev pub frame_of : {W : Type 0} → ClusterView W → Frame W
frame_of c = record { work = c.work; counts = c.counts; tasks = c.tasks }

-- a plan without topics
abbrev pub no_plan : TaskPlan
no_plan = record { sources = 0; inputs = λ sub. []; changelogs = λ sub. []; reader = λ topic. 0; step = λ t stores p rec. record { store = stores; made = []; late = 0 } }

-- the setup that a pass knows
abbrev pub setup_in : {W : Type 0} → (W → TaskPlan) → Option (Frame W) → Setup
setup_in plan None = setup_from no_plan [] []
setup_in plan (Some f) = setup_from (plan f.work) f.counts f.tasks

-- which assignments are good, by the work that a pass knows
abbrev pub good_in : {W : Type 0} → (W → PlacementTest) → Option (Frame W) → PlacementTest
good_in good None = λ members held ends a. false
good_in good (Some f) = good f.work

-- the cluster's journal grew by its own entries, and nothing else changed
pub record Grew {W : Type 0} (old new : ClusterView W) : Type 0 where
  pub own : List Entry
  pub is : new ≡ record old { journal = old.journal ++ own }

-- the same, by entries that any pass may add
pub record Grows {W : Type 0} (old new : ClusterView W) : Type 0 where
  pub own : List Entry
  pub is : new ≡ record old { journal = old.journal ++ own }
  pub plain : filter is_callers own ≡ []

-- the pass's turn came after entries of others, none of which is the caller's where the pass is number 0; then the call did this to the cluster, whose journal is legal and faithful before and after
pub record Called {W : Type 0} (plan : W → TaskPlan) (old new : PassView Entry (Frame W)) (Does : ClusterView W → ClusterView W → Type 0) : Type 0 where
  pub before : ClusterView W
  pub after : ClusterView W
  pub frame : old.frame ≡ Some (frame_of before)
  pub others : List Entry
  pub came : before.journal ≡ old.seen ++ others
  pub quiet : old.number ≡ 0 → filter is_callers others ≡ []
  pub does : Does before after
  pub grew : Grew before after
  pub history : IsHistory (setup_of plan after) after.journal
  pub same : new ≡ record old { seen = after.journal; made = old.made + (length after.journal - length before.journal) }
