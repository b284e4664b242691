-- What a part of a worker's turn asks, and what it keeps.
use Rattle.std.specs.Prelude.{◌≡◌, ℕ, Some, List}
use Rattle.ks_record.specs.declared.assignment.Assignment.{Assignment}
use Rattle.ks_plan.specs.Drafts.{DraftView}
use Rattle.ks_history.specs.declared.journal.Entry.{Entry}
use Rattle.ks_history.specs.Machine.{TaskPlan}
use Rattle.ks_growing.specs.Passes.{PassView}
use Rattle.ks_shared.specs.declared.state.Frame.{Frame}
use Rattle.ks_shared.specs.Calls.{setup_in}
use Rattle.ks_worker_client.specs.Calls.{Later, state_seen}
use Rattle.ks_worker_state.specs.declared.state.WorkerState.{WorkerState}
use Rattle.ks_worker_state.specs.Topology.{RunsTopology}
use Rattle.ks_worker_state.specs.State.{IsWorkerState}

-- whatever topology the cluster runs, what the worker holds is a worker's afterwards where it was before
abbrev pub KeepsWorker : {W G : Type 0} → (W → TaskPlan) → WorkerState W G → WorkerState W G → Type 0
KeepsWorker plan old new = (hash : List ℕ → ℕ) (d : DraftView) →
    RunsTopology hash d (setup_in plan old.session.client.pass.frame) → IsWorkerState plan d old → IsWorkerState plan d new

-- at a moment since `old` the pass saw the cluster in this generation, with an assignment
pub record WasAssigned {W : Type 0} (plan : W → TaskPlan) (old new : PassView Entry (Frame W)) (generation : ℕ) : Type 0 where
  pub told : PassView Entry (Frame W)
  pub since : Later plan old told
  pub before : Later plan told new
  pub generation_is : (state_seen plan told).generation ≡ generation
  pub assignment : Assignment
  pub assigned : (state_seen plan told).assignment ≡ Some assignment
