-- What the shelf holds beside a cluster: replicas that follow its journal, for exactly the pairs of instance and task that are parked there.
use Rattle.std.specs.Prelude.{◌≡◌, ℕ, Some, List, is_some}
use Rattle.ks_record.specs.declared.record.TaskId.{TaskId}
use Rattle.ks_history.specs.declared.journal.Entry.{Entry}
use Rattle.ks_history.specs.Machine.{TaskPlan}
use Rattle.ks_history.specs.State.{Setup}
use Rattle.ks_history.specs.Follows.{ReplicaFollows}
use Rattle.ks_cluster.specs.View.{ClusterView, setup_of, state_of}
use Rattle.ks_standby.specs.declared.replica.Replica.{Replica}
use Rattle.ks_standby.specs.declared.parked.Parked.{Parked}
use Rattle.ks_standby.specs.Replicas.{replica_view, IsReplicaIn}
use Rattle.ks_standby.specs.Shelf.{parked}

-- a replica of this task, with its changelogs, that follows the journal
pub record IsReplicaOf (setup : Setup) (journal : List Entry) (t : TaskId) (r : Replica) : Type 0 where
  pub task : r.id ≡ t
  pub changelogs : IsReplicaIn setup.plan r
  pub follows : ReplicaFollows setup journal (replica_view r)

pub record IsShelf {W : Type 0} (plan : W → TaskPlan) (c : ClusterView W) (p : Parked) : Type 0 where
  pub each : (i : ℕ) (t : TaskId) (r : Replica) → parked p i t ≡ Some r → IsReplicaOf (setup_of plan c) c.journal t r
  pub pairs : (i : ℕ) (t : TaskId) → is_some (parked p i t) ≡ (state_of plan c).parked i t
