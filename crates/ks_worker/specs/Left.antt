-- The replicas that a worker leaves: its own, and those of its clean tasks.
use Rattle.std.specs.Prelude.{◌≡◌, ℕ, List, ◌++◌}
use Rattle.std.specs.List.{All, filter}
use Rattle.ks_plan.specs.Drafts.{DraftView}
use Rattle.ks_history.specs.declared.journal.Entry.{Entry}
use Rattle.ks_history.specs.Machine.{TaskPlan}
use Rattle.ks_history.specs.State.{Setup}
use Rattle.ks_shared.specs.Calls.{setup_in}
use Rattle.ks_standby.specs.declared.replica.Replica.{Replica}
use Rattle.ks_worker_state.specs.declared.state.WorkerState.{WorkerState}
use Rattle.ks_worker_state.specs.Standbys.{IsStandby}
use Rattle.ks_worker_state.specs.State.{IsWorkerState, task_names, replica_names}
use Rattle.ks_worker_state.specs.Tasks.{is_clean_task}
use Rattle.ks_worker_state.specs.Topology.{RunsTopology}

-- a worker of a cluster that runs this topology; what follows what its pass has seen follows this journal too
pub record MayLeave {W G : Type 0} (plan : W → TaskPlan) (hash : List ℕ → ℕ) (d : DraftView) (setup : Setup) (journal : List Entry) (s : WorkerState W G) : Type 0 where
  pub topology : RunsTopology hash d (setup_in plan s.session.client.pass.frame)
  pub worker : IsWorkerState plan d s
  pub on : (r : Replica) → IsStandby (setup_in plan s.session.client.pass.frame) s.session.client.pass.seen r → IsStandby setup journal r

-- behind others stand its own replicas, and then those of its clean tasks
pub record PutsBehind {W G : Type 0} (s : WorkerState W G) (old new : List Replica) : Type 0 where
  pub left : List Replica
  pub behind : new ≡ old ++ left
  pub names : replica_names left ≡ replica_names s.replicas.items ++ task_names (filter is_clean_task s.tasks.items)

-- beside others that follow a journal, all that it leaves follow it
abbrev pub LeavesStandbys : {W G : Type 0} → (W → TaskPlan) → WorkerState W G → List Replica → List Replica → Type 0
LeavesStandbys plan s old new = (hash : List ℕ → ℕ) (d : DraftView) (setup : Setup) (journal : List Entry) → MayLeave plan hash d setup journal s →
    All (IsStandby setup journal) old → All (IsStandby setup journal) new
