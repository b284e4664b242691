-- A worker's replicas (KIP-441: standby replicas).
use Rattle.std.specs.Prelude.{◌≡◌, ◌≤◌, ◌<◌, ℕ, true, List}
use Rattle.ks_history.specs.declared.journal.Entry.{Entry}
use Rattle.ks_history.specs.Machine.{part_of, has_topic}
use Rattle.ks_history.specs.State.{Setup, has_task}
use Rattle.ks_history.specs.Follows.{ReplicaView}
use Rattle.ks_history.specs.History.{at}
use Rattle.ks_law_commit.specs.Bounds.{stable_of}
use Rattle.ks_standby.specs.declared.replica.Replica.{Replica}
use Rattle.ks_standby.specs.Replicas.{replica_view, changelogs_of}
use Rattle.ks_shared.specs.Shelf.{IsReplicaOf}
use Rattle.ks_law_commit.specs.Moves.{IsFed}

-- a replica of one of the cluster's tasks, with the task's changelogs, which follows the journal
pub record IsStandby (setup : Setup) (journal : List Entry) (r : Replica) : Type 0 where
  pub known : has_task r.id setup.tasks ≡ true
  pub replica : IsReplicaOf setup journal r.id r

-- it was fed from these changelogs since the journal was `h`, and follows the journal as it is now
pub record IsFedStandby (setup : Setup) (h now : List Entry) (topics : List ℕ) (old new : Replica) : Type 0 where
  pub standby : IsStandby setup now new
  pub changelogs : changelogs_of new ≡ changelogs_of old
  pub fed : IsFed setup h topics (replica_view old) (replica_view new)

-- its position in one of these changelogs rose
pub record HasMoved (topics : List ℕ) (old new : ReplicaView) : Type 0 where
  pub topic : ℕ
  pub own : has_topic topic topics ≡ true
  pub rose : old.position topic < new.position topic

-- nothing stable in the journal `h` is left of these changelogs
abbrev pub HasReadStable : Setup → List Entry → List ℕ → ReplicaView → Type 0
HasReadStable setup h topics r = (topic : ℕ) → has_topic topic topics ≡ true → stable_of (at setup h) (part_of topic r.task) ≤ r.position topic
