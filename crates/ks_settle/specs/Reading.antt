-- A task that reads on in one of its inputs.
use Rattle.std.specs.Prelude.{◌≡◌, ℕ, ◌≤◌, ◌==◌, false, true, List, []}
use Rattle.ks_record.specs.Records.{Record as Rec}
use Rattle.ks_record.specs.declared.record.PartId.{PartId}
use Rattle.ks_record.specs.declared.record.TaskId.{TaskId}
use Rattle.ks_def_runs.specs.Run.{sent_to}
use Rattle.ks_history.specs.declared.journal.Entry.{Entry}
use Rattle.ks_history.specs.Machine.{TaskPlan, Stores, network, part_of, has_topic}
use Rattle.ks_history.specs.State.{Setup}
use Rattle.ks_history.specs.Reads.{end_of}
use Rattle.ks_history.specs.Follows.{TaskView}
use Rattle.ks_history.specs.History.{at}
use Rattle.ks_law_restore.specs.Views.{Stands}

-- what a task makes of a record of a topic goes to topics of greater number
abbrev pub SendsOn : TaskPlan → Type 0
SendsOn plan = (t : TaskId) (stores : Stores) (q : PartId) (rec : Rec) (r : PartId) → r.topic ≤ q.topic → sent_to (network plan) r (plan.step t stores q rec).made ≡ []

-- the task has committed all that it took, and holds nothing
pub record IsClean (plan : TaskPlan) (v : TaskView) : Type 0 where
  pub kept : (topic : ℕ) → has_topic topic (plan.inputs v.task.sub) ≡ true → v.kept topic ≡ v.inputs topic
  pub made : (q : PartId) → v.made q ≡ []

-- w is the task v after it has read on in this topic alone; what it made goes to later topics
pub record HasRead (setup : Setup) (journal : List Entry) (topic : ℕ) (v w : TaskView) : Type 0 where
  pub stands : Stands setup journal w
  pub task : w.task ≡ v.task
  pub kept : (u : ℕ) → w.kept u ≡ v.kept u
  pub others : (u : ℕ) → (u == topic) ≡ false → w.inputs u ≡ v.inputs u
  pub made : (q : PartId) → q.topic ≤ topic → w.made q ≡ v.made q

-- and it stands at the end of its partition
pub record HasReadAll (setup : Setup) (journal : List Entry) (topic : ℕ) (v w : TaskView) : Type 0 where
  pub read : HasRead setup journal topic v w
  pub all : w.inputs topic ≡ end_of (at setup journal) (part_of topic w.task)
