-- Replicas as data, and tasks made of them (KIP-441: standby replicas keep a task's stores ready at another place).
use Rattle.std.specs.Prelude.{◌≡◌, ◌≤◌, ℕ, true, false, List, [], map}
use Rattle.ks_def_runs.specs.Bytes.{empty_store}
use Rattle.ks_record.specs.Records.{Record as Rec}
use Rattle.ks_record.specs.declared.record.TaskId.{TaskId}
use Rattle.ks_history.specs.declared.journal.Entry.{Entry}
use Rattle.ks_history.specs.Partition.{below}
use Rattle.ks_history.specs.Machine.{IsNetwork, latest_from, part_of, has_topic}
use Rattle.ks_history.specs.State.{Setup, with_number}
use Rattle.ks_history.specs.Faithful.{decided}
use Rattle.ks_history.specs.Reads.{fetched}
use Rattle.ks_history.specs.Follows.{TaskView, ReplicaView, ReplicaFollows}
use Rattle.ks_history.specs.History.{at, IsHistory}
use Rattle.ks_law_restore.specs.Views.{Stands}

-- a replica that was fed nothing
abbrev pub fresh_replica : TaskId → ReplicaView
fresh_replica t = record { task = t; stores = λ topic. empty_store; position = λ topic. 0 }

-- after it was fed records of a changelog, up to an offset
abbrev pub fed_replica : ReplicaView → ℕ → List (ℕ × Rec) → ℕ → ReplicaView
fed_replica r topic recs next = record r {
  stores = with_number r.stores topic (latest_from (r.stores topic) (map (λ x. x.1) recs));
  position = with_number r.position topic next;
}

-- a task made of a replica, with these offsets of its inputs as the committed ones
abbrev pub restored_view : ReplicaView → (ℕ → ℕ) → TaskView
restored_view r offsets = record { task = r.task; kept = offsets; inputs = offsets; order = []; position = r.position; stores = r.stores; made = λ q. []; late = 0 }

-- the replica that a task is, when its work is put away
abbrev pub rested_view : TaskView → ReplicaView
rested_view v = record { task = v.task; stores = v.stores; position = v.position }

-- a replica that was fed nothing follows every journal
abbrev pub ReplicaStarts : Type 0
ReplicaStarts = (setup : Setup) (journal : List Entry) (t : TaskId) → ReplicaFollows setup journal (fresh_replica t)

-- feeding all that a fetch gives of a changelog, and going on where the next fetch does
abbrev pub FeedingFollows : Type 0
FeedingFollows = (setup : Setup) (journal : List Entry) (r : ReplicaView) (topic limit : ℕ) → has_topic topic (setup.plan.changelogs r.task.sub) ≡ true → 1 ≤ limit →
    ReplicaFollows setup journal r → let got = fetched (at setup journal) (part_of topic r.task) (r.position topic) limit in
    ReplicaFollows setup journal (fed_replica r topic got.0 got.1)

-- a task made of a replica that has no store but those of its changelogs, where these are the committed offsets, and no decided record
-- of its changelogs stands at or past the replica's positions
abbrev pub RestoredStands : Type 0
RestoredStands = (setup : Setup) (journal : List Entry) (r : ReplicaView) (offsets : ℕ → ℕ) → IsNetwork setup.plan → IsHistory setup journal → ReplicaFollows setup journal r →
    ((topic : ℕ) → has_topic topic (setup.plan.changelogs r.task.sub) ≡ false → r.stores topic ≡ empty_store) →
    ((topic : ℕ) → has_topic topic (setup.plan.inputs r.task.sub) ≡ true → offsets topic ≡ (at setup journal).committed r.task topic) →
    ((topic : ℕ) → has_topic topic (setup.plan.changelogs r.task.sub) ≡ true → below (r.position topic) (decided (at setup journal) (part_of topic r.task)) ≡ decided (at setup journal) (part_of topic r.task)) →
    Stands setup journal (restored_view r offsets)

-- a task that has taken nothing since its last commit is a replica
abbrev pub RestedFollows : Type 0
RestedFollows = (setup : Setup) (journal : List Entry) (v : TaskView) → Stands setup journal v → ((topic : ℕ) → has_topic topic (setup.plan.inputs v.task.sub) ≡ true → v.inputs topic ≡ v.kept topic) →
    ReplicaFollows setup journal (rested_view v)
