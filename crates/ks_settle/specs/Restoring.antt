-- Replicas that are fed up to the ends of their changelogs (KIP-441: a task is restored before it is active).
use Rattle.std.specs.Prelude.{◌≡◌, ℕ, ◌+◌, ◌<◌, ◌≤◌, Bool, true, false, List, slice_index}
use Rattle.ks_record.specs.declared.record.TaskId.{TaskId}
use Rattle.ks_history.specs.declared.journal.Entry.{Entry}
use Rattle.ks_history.specs.Machine.{TaskPlan, part_of}
use Rattle.ks_history.specs.State.{Setup, has_task}
use Rattle.ks_history.specs.Reads.{end_of}
use Rattle.ks_history.specs.Follows.{ReplicaFollows}
use Rattle.ks_history.specs.History.{at}
use Rattle.ks_cluster.specs.View.{ClusterView, setup_of, state_of}
use Rattle.ks_commit.specs.Alone.{IsIdle}
use Rattle.ks_standby.specs.declared.replica.Replica.{Replica}
use Rattle.ks_standby.specs.Replicas.{replica_view, IsReplicaIn}
use Rattle.ks_settle.specs.Drained.{MayDrain}

-- a cluster that may be drained, between two transactions
pub record IsQuiet {W : Type 0} (plan : W → TaskPlan) (c : ClusterView W) : Type 0 where
  pub may : MayDrain (setup_of plan c)
  pub idle : IsIdle (state_of plan c)

-- a replica of a task of the cluster that follows the journal, and stands within its changelogs
pub record IsReplicaOf (setup : Setup) (journal : List Entry) (t : TaskId) (r : Replica) : Type 0 where
  pub task : r.id ≡ t
  pub known : has_task t setup.tasks ≡ true
  pub changelogs : IsReplicaIn setup.plan r
  pub follows : ReplicaFollows setup journal (replica_view r)
  pub within : (topic : ℕ) → (replica_view r).position topic ≤ end_of (at setup journal) (part_of topic t)

-- it went on, and nowhere back
pub record IsFed (setup : Setup) (journal : List Entry) (t : TaskId) (old new : Replica) : Type 0 where
  pub of : IsReplicaOf setup journal t new
  pub on : (topic : ℕ) → (replica_view old).position topic ≤ (replica_view new).position topic

-- one fetch of a changelog: whether it moved the replica
pub record IsFedOn (setup : Setup) (journal : List Entry) (t : TaskId) (topic : ℕ) (moved : Bool) (old new : Replica) : Type 0 where
  pub fed : IsFed setup journal t old new
  pub ends : moved ≡ false → end_of (at setup journal) (part_of topic t) ≤ (replica_view new).position topic
  pub moves : moved ≡ true → (replica_view old).position topic + 1 ≤ (replica_view new).position topic

-- all fetches of it
pub record IsFedTo (setup : Setup) (journal : List Entry) (t : TaskId) (topic : ℕ) (old new : Replica) : Type 0 where
  pub fed : IsFed setup journal t old new
  pub ends : end_of (at setup journal) (part_of topic t) ≤ (replica_view new).position topic

-- the replica has reached the ends of the first of these changelogs
pub record HasReachedFirst (setup : Setup) (journal : List Entry) (t : TaskId) (changelogs : List ℕ) (i : ℕ) (r : Replica) : Type 0 where
  pub of : IsReplicaOf setup journal t r
  pub ends : (k : ℕ) → k < i → end_of (at setup journal) (part_of (slice_index changelogs k) t) ≤ (replica_view r).position (slice_index changelogs k)

-- a replica of a task of the cluster, with the task's changelogs, that follows the journal
pub record IsReplicaAt (setup : Setup) (journal : List Entry) (r : Replica) : Type 0 where
  pub known : has_task r.id setup.tasks ≡ true
  pub changelogs : IsReplicaIn setup.plan r
  pub follows : ReplicaFollows setup journal (replica_view r)
