-- The replicas that the workers of a run leave.
use Rattle.std.specs.Prelude.{ℕ, List}
use Rattle.std.specs.List.{All}
use Rattle.ks_plan.specs.Drafts.{DraftView}
use Rattle.ks_history.specs.declared.journal.Entry.{Entry}
use Rattle.ks_history.specs.Machine.{TaskPlan}
use Rattle.ks_history.specs.State.{Setup}
use Rattle.ks_cluster.specs.View.{ClusterView, setup_of}
use Rattle.ks_standby.specs.declared.replica.Replica.{Replica}
use Rattle.ks_worker_state.specs.Standbys.{IsStandby}
use Rattle.ks_worker_state.specs.State.{IsWorkerState}
use Rattle.ks_worker_state.specs.Topology.{RunsTopology}
use Rattle.ks_worker.specs.Left.{MayLeave}
use Rattle.ks_run_workers.specs.declared.working.WorkerThread.{WorkerThread}

-- each is a worker of a cluster that runs this topology; what follows what its pass has seen follows this journal too
abbrev pub AllMayLeave : {W G : Type 0} → (W → TaskPlan) → (List ℕ → ℕ) → DraftView → Setup → List Entry → List (WorkerThread W G) → Type 0
AllMayLeave plan hash d setup journal members = All (λ m. MayLeave plan hash d setup journal m.worker.state) members

-- beside others that follow a journal, all that they leave follow it
abbrev pub AllLeave : {W G : Type 0} → (W → TaskPlan) → List (WorkerThread W G) → List Replica → List Replica → Type 0
AllLeave plan members old new = (hash : List ℕ → ℕ) (d : DraftView) (setup : Setup) (journal : List Entry) → AllMayLeave plan hash d setup journal members →
    All (IsStandby setup journal) old → All (IsStandby setup journal) new

-- each is a worker, of a topology that a cluster with this setup runs
pub record AreWorkers {W G : Type 0} (plan : W → TaskPlan) (setup : Setup) (members : List (WorkerThread W G)) : Type 0 where
  pub hash : List ℕ → ℕ
  pub topology : DraftView
  pub runs : RunsTopology hash topology setup
  pub each : All (λ m. IsWorkerState plan topology m.worker.state) members

-- each of these replicas follows the cluster's journal
abbrev pub AreStandbysOf : {W : Type 0} → (W → TaskPlan) → ClusterView W → List Replica → Type 0
AreStandbysOf plan c replicas = All (IsStandby (setup_of plan c) c.journal) replicas
