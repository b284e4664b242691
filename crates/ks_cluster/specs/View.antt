-- A cluster is its work, its setup and its journal. All else follows from the journal.
use Rattle.std.specs.Prelude.{◌≡◌, ℕ, ◌≤◌, List, [], ◌∷◌, ◌++◌, Option, Some, None, Result, Ok, Err}
use Rattle.ks_record.specs.declared.record.TaskId.{TaskId}
use Rattle.ks_record.specs.declared.assignment.Refused.{Refused}
use Rattle.ks_history.specs.declared.journal.Entry.{Entry}
use Rattle.ks_history.specs.declared.journal.Request.{Request}
use Rattle.ks_history.specs.declared.journal.Reply.{Reply}
use Rattle.ks_history.specs.Machine.{TaskPlan}
use Rattle.ks_history.specs.State.{State, Setup}
use Rattle.ks_history.specs.Step.{reply_to}
use Rattle.ks_history.specs.History.{at, IsHistory}
use Rattle.ks_cluster.specs.declared.broker.Broker.{Broker}
use Rattle.ks_history.specs.Count.{records_in}
use Rattle.ks_log.specs.Written.{total}
use Rattle.ks_cluster.specs.Moves.{IsAt}
use Rattle.ks_cluster.specs.Placed.{PlacementTest, ArePlaced}

-- what contracts see of a cluster
pub record ClusterView (W : Type 0) : Type 0 where
  pub work : W
  pub counts : List ℕ
  pub tasks : List TaskId
  pub journal : List Entry

abbrev pub setup_from : TaskPlan → List ℕ → List TaskId → Setup
setup_from plan counts tasks = record { plan = plan; counts = counts; tasks = tasks }

abbrev pub setup_of : {W : Type 0} → (W → TaskPlan) → ClusterView W → Setup
setup_of plan c = record { plan = plan c.work; counts = c.counts; tasks = c.tasks }

-- where the journal leaves the cluster
abbrev pub state_of : {W : Type 0} → (W → TaskPlan) → ClusterView W → State
state_of plan c = at (setup_of plan c) c.journal

-- the cluster gave this reply to the request: that of the step, and its journal has one entry more, with both
pub record AddsEntry {W : Type 0} (plan : W → TaskPlan) (old new : ClusterView W) (request : Request) (reply : Reply) : Type 0 where
  pub step : reply ≡ reply_to (setup_of plan old) (state_of plan old) request
  pub journal : new ≡ record old { journal = old.journal ++ record { request = request; reply = reply } ∷ [] }

abbrev pub setup_at : TaskPlan → List ℕ → Broker → Setup
setup_at plan counts b = record { plan = plan; counts = counts; tasks = b.group.tasks }

-- the journal is a history, the broker stands where it leads, and the log has all its records
pub record BrokerFollows (plan : TaskPlan) (counts : List ℕ) (journal : List Entry) (b : Broker) : Type 0 where
  pub history : IsHistory (setup_at plan counts b) journal
  pub stands : IsAt (setup_at plan counts b) (at (setup_at plan counts b) journal) b
  pub wrote : records_in (setup_at plan counts b) journal ≤ total b.log

-- the broker follows the journal, and each assignment that was taken is good by the work
pub record IsCluster (plan : TaskPlan) (test : PlacementTest) (counts : List ℕ) (journal : List Entry) (b : Broker) : Type 0 where
  pub follows : BrokerFollows plan counts journal b
  pub placed : ArePlaced test (setup_at plan counts b) journal

-- a read is refused so, or not at all
abbrev pub Refuses : {A : Type 0} → Option Refused → Result A Refused → Type 0
Refuses refusal (Ok x) = refusal ≡ None
Refuses refusal (Err refused) = refusal ≡ Some refused
