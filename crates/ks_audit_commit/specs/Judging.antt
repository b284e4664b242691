-- A task between two of its commits, and what it says of the next one (KIP-447: the offsets are committed with what was made of them).
use Rattle.std.specs.Prelude.{◌≡◌, ℕ, ◌↔◌, ◌≤◌, ◌==◌, ◌&&◌, Bool, true, false, Some, None, List, [], ◌∷◌, ◌++◌, length, map}
use Rattle.std.specs.List.Sorted.{IsPermutation}
use Rattle.ks_record.specs.declared.record.PartId.{PartId}
use Rattle.ks_record.specs.declared.record.TaskId.{TaskId}
use Rattle.ks_plan.specs.Drafts.{DraftView}
use Rattle.ks_history.specs.declared.journal.Entry.{Entry}
use Rattle.ks_history.specs.declared.journal.Request.TheVariants.{Decide}
use Rattle.ks_history.specs.declared.transaction.Pending.{Pending}
use Rattle.ks_history.specs.Partition.{stable}
use Rattle.ks_history.specs.Machine.{TaskPlan, IsNetwork, part_of, has_topic}
use Rattle.ks_history.specs.State.{State, Setup, has_task, pending_of}
use Rattle.ks_history.specs.Step.{refusal, pending_at}
use Rattle.ks_history.specs.Follows.{TaskView}
use Rattle.ks_history.specs.Faithful.{IsFaithfulTask, pending_offsets, taken, count_in}
use Rattle.ks_history.specs.History.{at, IsHistory}
use Rattle.ks_law_restore.specs.Views.{Stands, WorkView, IsFrozen, are_topics_once}
use Rattle.ks_law_audit.specs.Rested.{IsRested, HasTaken, placed, run_onto, merged_onto, merged}
use Rattle.ks_law_audit.specs.Laws.{last_end, commit_of}
use Rattle.ks_law_audit.specs.Logged.{logged}
use Rattle.ks_audit_ledger.specs.declared.account.Account.{Account}
use Rattle.ks_audit_ledger.specs.declared.account.Open.{Open}
use Rattle.ks_audit_ledger.specs.declared.account.Sent.{Sent}
use Rattle.ks_audit_ledger.specs.Accounts.{IsAccount}
use Rattle.ks_audit_ledger.specs.Offsets.{HasOffsets, logged_in}
use Rattle.ks_task.specs.declared.task.Task.{Task}
use Rattle.ks_task.specs.Tasks.{task_view, IsTaskOf}
use Rattle.ks_audit_commit.specs.Ends.{end_in}
use Rattle.ks_audit_commit.specs.Comparing.{are_made}
use Rattle.ks_audit_commit.specs.declared.audited.AuditedTask.{AuditedTask}

abbrev pub name_of : AuditedTask → TaskId
name_of t = (task_view t.task).task

-- it is one of the topology's, at rest at the state of the journal, and knows where its decided records end
pub record IsAudited (d : DraftView) (setup : Setup) (journal : List Entry) (t : AuditedTask) : Type 0 where
  pub of : IsTaskOf d t.task
  pub known : has_task (name_of t) setup.tasks ≡ true
  pub rests : IsRested setup (at setup journal) (task_view t.task)
  pub ends : (q : PartId) → end_in q t.ends.items ≡ last_end (at setup journal) (name_of t) q

-- the same, of a task that a commit names, and each input of it stands once
pub record IsResting (d : DraftView) (setup : Setup) (journal : List Entry) (p : Pending) (task : Task) : Type 0 where
  pub of : IsTaskOf d task
  pub name : (task_view task).task ≡ p.task
  pub known : has_task p.task setup.tasks ≡ true
  pub once : are_topics_once (setup.plan.inputs p.task.sub) ≡ true
  pub rests : IsRested setup (at setup journal) (task_view task)

-- ---- a task takes what is pending
-- it follows the journal, the pending offsets name each of its inputs once, and it stands past none of them
pub record IsTaking (d : DraftView) (setup : Setup) (journal : List Entry) (p : Pending) (task : Task) : Type 0 where
  pub of : IsTaskOf d task
  pub name : (task_view task).task ≡ p.task
  pub known : has_task p.task setup.tasks ≡ true
  pub inputs : IsPermutation (setup.plan.inputs p.task.sub) (map (λ o. o.0) p.offsets)
  pub stands : Stands setup journal (placed (at setup journal) (task_view task))
  pub before : (topic : ℕ) → has_topic topic (setup.plan.inputs p.task.sub) ≡ true → (task_view task).inputs topic ≤ pending_offsets (at setup journal) p topic

-- it took a run of an order; or it can't, and then no order that goes on with the run is that of a faithful commit
pub record TakesNamed (d : DraftView) (setup : Setup) (journal : List Entry) (p : Pending) (run : ℕ × ℕ) (done : Bool) (old new : Task) : Type 0 where
  pub taking : IsTaking d setup journal p new
  pub order : done ≡ true → (task_view new).order ≡ run_onto run.0 run.1 (task_view old).order
  pub no : done ≡ false → (rest : List (ℕ × ℕ)) → merged_onto (run_onto run.0 run.1 (task_view old).order) rest ≡ merged p.order
      → (w : ℕ) → IsFaithfulTask setup (at setup journal) w p → ⊥

-- of the pending order it took all but these runs
pub record HasOrder (d : DraftView) (setup : Setup) (journal : List Entry) (p : Pending) (rest : List (ℕ × ℕ)) (task : Task) : Type 0 where
  pub taking : IsTaking d setup journal p task
  pub order : merged_onto (task_view task).order rest ≡ merged p.order

-- it took all that the order names, and nothing else
pub record TakesOrder (d : DraftView) (setup : Setup) (journal : List Entry) (p : Pending) (done : Bool) (new : Task) : Type 0 where
  pub taking : IsTaking d setup journal p new
  pub order : done ≡ true → (task_view new).order ≡ merged p.order
  pub no : done ≡ false → (w : ℕ) → IsFaithfulTask setup (at setup journal) w p → ⊥

-- it went on to the pending offset of an input
pub record PassesOne (d : DraftView) (setup : Setup) (journal : List Entry) (p : Pending) (topic : ℕ) (done : Bool) (old new : Task) : Type 0 where
  pub taking : IsTaking d setup journal p new
  pub order : (task_view new).order ≡ (task_view old).order
  pub others : (n : ℕ) → (n == topic) ≡ false → (task_view new).inputs n ≡ (task_view old).inputs n
  pub here : done ≡ true → (task_view new).inputs topic ≡ pending_offsets (at setup journal) p topic
  pub no : done ≡ false → (task_view old).order ≡ merged p.order → (w : ℕ) → IsFaithfulTask setup (at setup journal) w p → ⊥

-- it took the pending order, and stands at the pending offset of each input but these
pub record HasPassed (d : DraftView) (setup : Setup) (journal : List Entry) (p : Pending) (rest : List ℕ) (task : Task) : Type 0 where
  pub taking : IsTaking d setup journal p task
  pub order : (task_view task).order ≡ merged p.order
  pub within : (topic : ℕ) → has_topic topic rest ≡ true → has_topic topic (setup.plan.inputs p.task.sub) ≡ true
  pub passed : (topic : ℕ) → has_topic topic (setup.plan.inputs p.task.sub) ≡ true → has_topic topic rest ≡ false
      → (task_view task).inputs topic ≡ pending_offsets (at setup journal) p topic

-- so that it stands at all of them; or it can't, and the commit isn't faithful
pub record PassesAll (d : DraftView) (setup : Setup) (journal : List Entry) (p : Pending) (done : Bool) (new : Task) : Type 0 where
  pub yes : done ≡ true → HasPassed d setup journal p [] new
  pub no : done ≡ false → (w : ℕ) → IsFaithfulTask setup (at setup journal) w p → ⊥

-- the points of a faithful commit that speak of offsets and of the order alone
pub record NamesTaken (setup : Setup) (s : State) (p : Pending) : Type 0 where
  pub inputs : IsPermutation (setup.plan.inputs p.task.sub) (map (λ o. o.0) p.offsets)
  pub committed : (topic : ℕ) → s.committed p.task topic ≤ pending_offsets s p topic
  pub stable : (topic : ℕ) → has_topic topic (setup.plan.inputs p.task.sub) ≡ true → pending_offsets s p topic ≤ stable (s.partition (part_of topic p.task))
  pub order : (topic : ℕ) → count_in topic p.order ≡ length (taken setup s p.task (pending_offsets s p) topic)

-- it took what is pending; or it can't, and the commit isn't faithful
pub record TakesPending (d : DraftView) (setup : Setup) (journal : List Entry) (p : Pending) (done : Bool) (new : Task) : Type 0 where
  pub of : done ≡ true → IsTaskOf d new
  pub took : done ≡ true → HasTaken setup (at setup journal) p (task_view new)
  pub named : done ≡ true → NamesTaken setup (at setup journal) p
  pub no : done ≡ false → (w : ℕ) → IsFaithfulTask setup (at setup journal) w p → ⊥

-- what it made is what was sent for it, and so many records were late
pub record FrozenAs (plan : TaskPlan) (v : TaskView) (late : ℕ) (sent : List Sent) (told : Bool) : Type 0 where
  pub frozen : WorkView
  pub is : IsFrozen plan v frozen
  pub same : told ≡ ((late == frozen.late) && are_made v.task frozen.outputs sent)

-- ---- a commit
-- the account of a producer, which has these offsets of the task pending
pub record IsCommit (setup : Setup) (journal : List Entry) (w : ℕ) (a : Account) (p : Pending) : Type 0 where
  pub account : IsAccount setup journal w a
  pub offsets : HasOffsets setup journal w a
  pub pending : pending_of p.task (pending_at ((at setup journal).producer w)) ≡ Some p

-- the commit is faithful for the task, and then it has taken what the commit names; or it isn't
pub record Judges (d : DraftView) (setup : Setup) (journal : List Entry) (w : ℕ) (p : Pending) (faithful : Bool) (old new : AuditedTask) : Type 0 where
  pub verdict : (faithful ≡ true) ↔ IsFaithfulTask setup (at setup journal) w p
  pub ends : new.ends ≡ old.ends
  pub of : faithful ≡ true → IsTaskOf d new.task
  pub took : faithful ≡ true → HasTaken setup (at setup journal) p (task_view new.task)

-- the commit was made that names these offsets, which the task has taken
pub record MayRest (d : DraftView) (setup : Setup) (journal : List Entry) (w epoch : ℕ) (open_now : Open) (p : Pending) (t : AuditedTask) : Type 0 where
  pub network : IsNetwork setup.plan
  pub before : IsHistory setup journal
  pub history : IsHistory setup (journal ++ commit_of w epoch ∷ [])
  pub accepted : refusal setup (at setup journal) (Decide w epoch true) ≡ None
  pub of : IsTaskOf d t.task
  pub known : has_task (name_of t) setup.tasks ≡ true
  pub pending : pending_of p.task (pending_at ((at setup journal).producer w)) ≡ Some p
  pub took : HasTaken setup (at setup journal) p (task_view t.task)
  pub offsets : (q : PartId) → logged_in (name_of t) q open_now.sent ≡ logged setup journal w (name_of t) q
  pub ends : (q : PartId) → end_in q t.ends.items ≡ last_end (at setup journal) (name_of t) q
