-- Changelogs as lists, and the replica that they are (KIP-441).
use Rattle.std.specs.Prelude.{◌≡◌, ◌≤◌, ◌+◌, ◌-◌, ◌^◌, ℕ, ◌==◌, true, if◌then◌else◌, min, List, [], ◌∷◌, map}
use Rattle.ks_record.specs.Records.{Record as Rec}
use Rattle.ks_record.specs.declared.record.TaskId.{TaskId}
use Rattle.ks_history.specs.declared.journal.Entry.{Entry}
use Rattle.ks_history.specs.Machine.{TaskPlan, part_of, has_topic}
use Rattle.ks_history.specs.State.{Setup}
use Rattle.ks_history.specs.Reads.{fetched}
use Rattle.ks_history.specs.Follows.{ReplicaView, ReplicaFollows}
use Rattle.ks_history.specs.History.{at}
use Rattle.ks_store.specs.Restored.{records_of}
use Rattle.ks_cache.specs.Kept.{kept_after}
use Rattle.ks_cache.specs.Changelogs.{stores_in}
use Rattle.ks_cache.specs.declared.changelogs.Changelog.{Changelog}
use Rattle.ks_standby.specs.declared.replica.Replica.{Replica}

abbrev pub positions_in : List Changelog → ℕ → ℕ
positions_in [] topic = 0
positions_in (l ∷ ls) topic = if topic == l.topic then l.position else positions_in ls topic

abbrev pub numbers_of : List Changelog → List ℕ
numbers_of ls = map (λ (l : Changelog). l.topic) ls

-- the place of the first changelog of a topic; past the last where there is none
abbrev pub changelog_place : List Changelog → ℕ → ℕ
changelog_place [] topic = 0
changelog_place (l ∷ ls) topic = if topic == l.topic then 0 else changelog_place ls topic + 1

-- a changelog after it was fed records
abbrev pub fed : List (ℕ × Rec) → ℕ → Changelog → Changelog
fed recs next l = record { topic = l.topic; position = next; store = kept_after l.store (records_of recs) }

-- after the first changelog of a topic was fed records
abbrev pub fed_in : ℕ → List (ℕ × Rec) → ℕ → List Changelog → List Changelog
fed_in topic recs next [] = []
fed_in topic recs next (l ∷ ls) = if topic == l.topic then fed recs next l ∷ ls else l ∷ fed_in topic recs next ls

abbrev pub sum_of : List Changelog → ℕ
sum_of [] = 0
sum_of (l ∷ ls) = l.position + sum_of ls

-- the sum of the positions stops at the greatest u64
abbrev pub position_sum : List Changelog → ℕ
position_sum ls = min (sum_of ls) (2 ^ 64 - 1)

-- ---- the replica
abbrev pub view_in : TaskId → List Changelog → ReplicaView
view_in id changelogs = record { task = id; stores = stores_in changelogs; position = positions_in changelogs }

abbrev pub replica_view : Replica → ReplicaView
replica_view r = view_in r.id r.changelogs.items

abbrev pub changelogs_of : Replica → List ℕ
changelogs_of r = numbers_of r.changelogs.items

-- it has the changelogs of its task
abbrev pub IsReplicaIn : TaskPlan → Replica → Type 0
IsReplicaIn plan r = changelogs_of r ≡ plan.changelogs r.id.sub

-- a fetch of this changelog of the task, from the replica's position on, gives these records, and goes on here
pub record GivesFetched (setup : Setup) (journal : List Entry) (r : ReplicaView) (topic : ℕ) (recs : List (ℕ × Rec)) (next : ℕ) : Type 0 where
  pub limit : ℕ
  pub some : 1 ≤ limit
  pub changelog : has_topic topic (setup.plan.changelogs r.task.sub) ≡ true
  pub gives : (recs, next) ≡ fetched (at setup journal) (part_of topic r.task) (r.position topic) limit

abbrev pub FollowsOn : Setup → List Entry → ReplicaView → ReplicaView → Type 0
FollowsOn setup journal old new = ReplicaFollows setup journal old → ReplicaFollows setup journal new
