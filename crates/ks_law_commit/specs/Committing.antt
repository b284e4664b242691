-- The commit of a transaction that was built among others (KIP-98), and what it makes of the worker's tasks (KIP-447).
use Rattle.std.specs.Prelude.{◌≡◌, ◌≢◌, ◌+◌, ℕ, true, Some, None, List, [], ◌∷◌, ◌++◌, length}
use Rattle.ks_record.specs.Records.{Record as Rec}
use Rattle.ks_record.specs.declared.record.PartId.{PartId}
use Rattle.ks_record.specs.declared.record.TaskId.{TaskId}
use Rattle.ks_history.specs.declared.journal.Entry.{Entry}
use Rattle.ks_history.specs.declared.journal.Request.TheVariants.{Append, Decide}
use Rattle.ks_history.specs.declared.journal.Reply.TheVariants.{Done}
use Rattle.ks_history.specs.declared.transaction.Pending.{Pending}
use Rattle.ks_history.specs.Partition.{open_from, past_last, with_offsets}
use Rattle.ks_history.specs.Machine.{IsNetwork, part_of, has_topic}
use Rattle.ks_history.specs.State.{State, Setup, offset_in}
use Rattle.ks_history.specs.Step.{refusal, effect}
use Rattle.ks_history.specs.Follows.{TaskView}
use Rattle.ks_history.specs.History.{at, IsHistory, CommitsFaithfully}
use Rattle.ks_history.specs.Touched.{touched}
use Rattle.ks_law_restore.specs.Views.{WorkView, IsFrozen, IsWork, IsPast, committed_view, pending_work, recs_at}
use Rattle.ks_law_restore.specs.Commits.{NoCommit}
use Rattle.ks_law_sharing.specs.Tasks.{IsActive}
use Rattle.ks_law_commit.specs.Building.{Contents, IsBuilding}

-- ---- what a transaction holds of a task
-- the task's work whole: its offsets, and in each partition its records
pub record Holds (c : Contents) (f : WorkView) : Type 0 where
  pub pending : c.pending f.task ≡ Some (pending_work f)
  pub records : (q : PartId) → c.records f.task q ≡ recs_at q f.outputs

-- of each task that it names the work, which is what the task makes of its inputs in this state
pub record HoldsWork (setup : Setup) (s : State) (c : Contents) : Type 0 where
  pub named : (t : TaskId) → c.tasks t ≡ true → (p : Pending) × (c.pending t ≡ Some p)
  pub each : (t : TaskId) (p : Pending) → c.pending t ≡ Some p → (f : WorkView) × (f.task ≡ t) × Holds c f × IsWork setup s f

abbrev pub BuildingFaithful : Type 0
BuildingFaithful = (setup : Setup) (journal more : List Entry) (w e : ℕ) (c : Contents) →
    IsNetwork setup.plan → IsHistory setup (journal ++ more) →
    IsBuilding (at setup journal) (at setup (journal ++ more)) w e c → HoldsWork setup (at setup (journal ++ more)) c →
    ((t : TaskId) (p : Pending) → c.pending t ≡ Some p → NoCommit setup (at setup journal) more t) →
    CommitsFaithfully setup (at setup (journal ++ more)) (Decide w e true)

-- ---- the ends past its records
-- the offset past a task's records in a partition that no marker completes
abbrev pub open_end : State → ℕ → ℕ → TaskId → PartId → ℕ
open_end s w e t q = past_last (with_offsets (open_from w e t 0 (s.partition q)))

-- an `append` is answered with the end before it
abbrev pub AppendEnds : Type 0
AppendEnds = (s : State) (w e number : ℕ) (t : TaskId) (p : PartId) (rs : List Rec) → rs ≢ [] →
    open_end (effect s (Append w e number t p rs)) w e t p ≡ length (s.partition p) + length rs

abbrev pub commit_entry : ℕ → ℕ → Entry
commit_entry w e = record { request = Decide w e true; reply = Done }

abbrev pub CommittedEnds : Type 0
CommittedEnds = (setup : Setup) (journal : List Entry) (w e : ℕ) (t : TaskId) (topic : ℕ) →
    IsNetwork setup.plan → IsHistory setup (journal ++ commit_entry w e ∷ []) →
    refusal setup (at setup journal) (Decide w e true) ≡ None →
    has_topic topic (setup.plan.changelogs t.sub) ≡ true →
    open_from w e t 0 ((at setup journal).partition (part_of topic t)) ≢ [] →
    IsPast (at setup (journal ++ commit_entry w e ∷ [])) (part_of topic t) (open_end (at setup journal) w e t (part_of topic t))

-- ---- the tasks after it
-- the ends of the work's open records in the changelogs of its task, and of no others of them
pub record AreOpenEnds (setup : Setup) (s : State) (w e : ℕ) (f : WorkView) (ends : List (ℕ × ℕ)) : Type 0 where
  pub named : (topic old : ℕ) → has_topic topic (setup.plan.changelogs f.task.sub) ≡ true →
      recs_at (part_of topic f.task) f.outputs ≢ [] → offset_in old topic ends ≡ open_end s w e f.task (part_of topic f.task)
  pub others : (topic old : ℕ) → has_topic topic (setup.plan.changelogs f.task.sub) ≡ true →
      recs_at (part_of topic f.task) f.outputs ≡ [] → offset_in old topic ends ≡ old

-- the worker remembers the commit
abbrev pub ActiveCommits : Type 0
ActiveCommits =
    (setup : Setup) (first : State) (journal : List Entry) (w e g last : ℕ) (c : Contents) (v : TaskView) (f : WorkView)
    (ends : List (ℕ × ℕ)) →
    IsNetwork setup.plan → IsHistory setup (journal ++ commit_entry w e ∷ []) →
    refusal setup (at setup journal) (Decide w e true) ≡ None →
    IsBuilding first (at setup journal) w e c → Holds c f → IsFrozen setup.plan v f →
    AreOpenEnds setup (at setup journal) w e f ends →
    touched w journal ≡ last → IsActive setup journal w g last v →
    IsActive setup (journal ++ commit_entry w e ∷ []) w g (touched w (journal ++ commit_entry w e ∷ [])) (committed_view v ends)

abbrev pub ActiveRests : Type 0
ActiveRests =
    (setup : Setup) (first : State) (journal : List Entry) (w e g last : ℕ) (c : Contents) (v : TaskView) →
    IsNetwork setup.plan → IsHistory setup (journal ++ commit_entry w e ∷ []) →
    refusal setup (at setup journal) (Decide w e true) ≡ None →
    IsBuilding first (at setup journal) w e c → c.pending v.task ≡ None →
    touched w journal ≡ last → IsActive setup journal w g last v →
    IsActive setup (journal ++ commit_entry w e ∷ []) w g (touched w (journal ++ commit_entry w e ∷ [])) v
