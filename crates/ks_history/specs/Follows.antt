-- What it means that a replica's or a task's stores follow a journal (KIP-441: standby replicas and restored tasks).
use Rattle.std.specs.Prelude.{◌≡◌, ◌⊎◌, ℕ, ◌≤◌, true, List, length}
use Rattle.ks_record.specs.Records.{Record as Rec}
use Rattle.ks_record.specs.declared.record.PartId.{PartId}
use Rattle.ks_record.specs.declared.record.TaskId.{TaskId}
use Rattle.ks_def_runs.specs.Run.{sent_to}
use Rattle.ks_history.specs.declared.journal.Entry.{Entry}
use Rattle.ks_history.specs.Partition.{stable, recs, below, past_last, with_offsets}
use Rattle.ks_history.specs.Machine.{Stores, latest, network, part_of, has_topic}
use Rattle.ks_history.specs.State.{State, Setup}
use Rattle.ks_history.specs.Faithful.{decided, taken, count_in, outcome, capped}
use Rattle.ks_history.specs.History.{at}

-- a replica: the stores of a task, and a position in each of its changelogs
pub record ReplicaView : Type 0 where
  pub task : TaskId
  pub stores : Stores
  pub position : ℕ → ℕ

-- a position in a partition is at most the stable offset, or at most one past the last decided record
abbrev pub IsReached : State → PartId → ℕ → Type 0
IsReached s p position = (position ≤ stable (s.partition p)) ⊎ (position ≤ past_last (with_offsets (decided s p)))

-- each store is the last values of the decided records below its position
pub record ReplicaFollows (setup : Setup) (journal : List Entry) (replica : ReplicaView) : Type 0 where
  pub stores : (topic : ℕ) → has_topic topic (setup.plan.changelogs replica.task.sub) ≡ true →
      replica.stores topic ≡ latest (recs (below (replica.position topic) (decided (at setup journal) (part_of topic replica.task))))
  pub reached : (topic : ℕ) → has_topic topic (setup.plan.changelogs replica.task.sub) ≡ true →
      IsReached (at setup journal) (part_of topic replica.task) (replica.position topic)

-- a task at work since its last commit
pub record TaskView : Type 0 where
  pub task : TaskId
  -- by input topic: the offsets that it keeps as committed, and the positions up to which it has taken records
  pub kept : ℕ → ℕ
  pub inputs : ℕ → ℕ
  -- in which order it took them: runs of a topic and a count
  pub order : List (ℕ × ℕ)
  -- by changelog
  pub position : ℕ → ℕ
  pub stores : Stores
  -- the outputs and the changelog records, by partition
  pub made : PartId → List Rec
  pub late : ℕ

pub record TaskFollows (setup : Setup) (journal : List Entry) (task : TaskView) : Type 0 where
  -- its kept offsets are the committed ones
  pub kept : (topic : ℕ) → has_topic topic (setup.plan.inputs task.task.sub) ≡ true → task.kept topic ≡ (at setup journal).committed task.task topic
  -- each input position lies between the committed and the stable offset, both included
  pub committed : (topic : ℕ) → has_topic topic (setup.plan.inputs task.task.sub) ≡ true → (at setup journal).committed task.task topic ≤ task.inputs topic
  pub stable : (topic : ℕ) → has_topic topic (setup.plan.inputs task.task.sub) ≡ true → task.inputs topic ≤ stable ((at setup journal).partition (part_of topic task.task))
  -- its order names each readable record between them once
  pub order : (topic : ℕ) → count_in topic task.order ≡ length (taken setup (at setup journal) task.task task.inputs topic)
  -- its position in each changelog is past every decided record
  pub past : (topic : ℕ) → has_topic topic (setup.plan.changelogs task.task.sub) ≡ true →
      below (task.position topic) (decided (at setup journal) (part_of topic task.task)) ≡ decided (at setup journal) (part_of topic task.task)
  pub reached : (topic : ℕ) → has_topic topic (setup.plan.changelogs task.task.sub) ≡ true →
      IsReached (at setup journal) (part_of topic task.task) (task.position topic)
  -- its stores, outputs, changelog records and late count are what it makes of the records that it took
  pub stores : (topic : ℕ) → has_topic topic (setup.plan.changelogs task.task.sub) ≡ true →
      task.stores topic ≡ (outcome setup (at setup journal) task.task task.inputs task.order).store topic
  pub made : (q : PartId) → task.made q ≡ sent_to (network setup.plan) q (outcome setup (at setup journal) task.task task.inputs task.order).made
  pub late : task.late ≡ capped (outcome setup (at setup journal) task.task task.inputs task.order).late
