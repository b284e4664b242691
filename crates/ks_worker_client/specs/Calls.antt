-- What a worker's client may do, and what a call of it tells.
use Rattle.std.specs.Prelude.{◌≡◌, ◌+◌, false, Result, Ok, Err, List, [], ◌∷◌, ◌++◌}
use Rattle.atomic_table.specs.Seated.{TableId}
use Rattle.ks_history.specs.declared.journal.Entry.{Entry}
use Rattle.ks_history.specs.declared.journal.Request.{Request}
use Rattle.ks_history.specs.declared.journal.Reply.{Reply}
use Rattle.ks_history.specs.Machine.{TaskPlan, IsNetwork}
use Rattle.ks_history.specs.State.{State, IsSetup}
use Rattle.ks_history.specs.Step.{reply_to}
use Rattle.ks_history.specs.History.{at, IsHistory}
use Rattle.ks_cluster.specs.View.{ClusterView}
use Rattle.ks_growing.specs.Passes.{PassView}
use Rattle.ks_shared.specs.declared.state.Frame.{Frame}
use Rattle.ks_shared.specs.Calls.{setup_in, Called}
use Rattle.ks_worker_client.specs.declared.halt.Halt.{Halt}
use Rattle.ks_worker_client.specs.declared.halt.Halt.TheVariants.{Cut, OutOfMemory}
use Rattle.ks_worker_client.specs.Turns.{GateCounts, HasRoomFor}

-- the cluster as it stands by all that the pass has seen
abbrev pub state_seen : {W : Type 0} → (W → TaskPlan) → PassView Entry (Frame W) → State
state_seen plan pass = at (setup_in plan pass.frame) pass.seen

-- a call may be made: the pass is one of this lock and doesn't hold the value, what it has seen is a history of a network of tasks, and the gate can count
pub record MayCall {W : Type 0} (plan : W → TaskPlan) (lock : TableId) (pass : PassView Entry (Frame W)) (gate : GateCounts) : Type 0 where
  pub lock_is : pass.lock ≡ lock
  pub free : pass.holds ≡ false
  pub history : IsHistory (setup_in plan pass.frame) pass.seen
  pub network : IsNetwork (setup_in plan pass.frame).plan
  pub setup : IsSetup (setup_in plan pass.frame)
  pub room : HasRoomFor gate

-- a later moment of the pass: it has seen more, and what it has seen is a history
pub record Later {W : Type 0} (plan : W → TaskPlan) (old new : PassView Entry (Frame W)) : Type 0 where
  pub more : List Entry
  pub seen : new.seen ≡ old.seen ++ more
  pub same : new ≡ record old { seen = new.seen; made = new.made }
  pub history : IsHistory (setup_in plan old.frame) (old.seen ++ more)

-- the last entry that the pass has seen is this one, which was added through it
pub record Wrote {W : Type 0} (plan : W → TaskPlan) (old new : PassView Entry (Frame W)) (request : Request) (reply : Reply) : Type 0 where
  pub others : List Entry
  pub seen : new.seen ≡ (old.seen ++ others) ++ record { request = request; reply = reply } ∷ []
  pub made : new.made ≡ old.made + 1
  pub step : reply ≡ reply_to (setup_in plan old.frame) (at (setup_in plan old.frame) (old.seen ++ others)) request

-- a call may be made that asks for no history: the pass is one of this lock and doesn't hold the value, and the gate can count
pub record MayAsk {W : Type 0} (lock : TableId) (pass : PassView Entry (Frame W)) (gate : GateCounts) : Type 0 where
  pub lock_is : pass.lock ≡ lock
  pub free : pass.holds ≡ false
  pub room : HasRoomFor gate

-- what a call came to: with an answer it did this to the cluster; without memory it added nothing; where the worker was cut off, it wasn't made
abbrev pub Answered : {W A : Type 0} → (W → TaskPlan) → PassView Entry (Frame W) → PassView Entry (Frame W) → (A → ClusterView W → ClusterView W → Type 0) → Result A Halt → Type 0
Answered plan old new Does (Ok a) = Called plan old new (Does a)
Answered plan old new Does (Err OutOfMemory) = Called plan old new (λ before after. after ≡ before)
Answered plan old new Does (Err Cut) = new ≡ old
