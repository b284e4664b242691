-- A settled cluster: all that was produced has been taken, and its commits are complete.
use Rattle.std.specs.Prelude.{◌≡◌, ℕ, ◌≤◌, true, None, []}
use Rattle.ks_record.specs.declared.record.TaskId.{TaskId}
use Rattle.ks_history.specs.Machine.{part_of, has_topic}
use Rattle.ks_history.specs.State.{State, Setup, has_task}
use Rattle.ks_history.specs.Reads.{end_of}

pub record IsSettled (setup : Setup) (s : State) : Type 0 where
  -- no transaction is undecided, and no marker waits
  pub undecided : (w : ℕ) → w ≤ 16 → (s.producer w).undecided ≡ None
  pub waiting : (w : ℕ) → w ≤ 16 → (s.producer w).waiting ≡ []
  -- of each partition of each topic that is read, the committed offset of the task that reads it equals the end
  pub committed : (t : TaskId) (topic : ℕ) → has_task t setup.tasks ≡ true → has_topic topic (setup.plan.inputs t.sub) ≡ true → s.committed t topic ≡ end_of s (part_of topic t)
