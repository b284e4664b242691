-- What an audit keeps beside the cluster that a journal leaves, and what it says of a commit.
use Rattle.std.specs.Prelude.{◌≡◌, ◌⊎◌, ℕ, Bool, true, false, List, [], ◌∷◌, ◌++◌, Option, Some, None, length, map, get_or, if◌then◌else◌}
use Rattle.ks_record.specs.declared.record.PartId.{PartId}
use Rattle.ks_record.specs.declared.record.TaskId.{TaskId}
use Rattle.ks_plan.specs.Drafts.{DraftView}
use Rattle.ks_plan.specs.Plan.{plan_of}
use Rattle.ks_cluster.specs.View.{ClusterView, setup_of}
use Rattle.ks_def_tasks.specs.Messages.{Rules}
use Rattle.ks_law_topology.specs.Work.{work_of}
use Rattle.ks_history.specs.declared.journal.Request.{Request}
use Rattle.ks_history.specs.declared.journal.Request.TheVariants.{Decide}
use Rattle.ks_history.specs.declared.journal.Entry.{Entry}
use Rattle.ks_history.specs.declared.transaction.Pending.{Pending}
use Rattle.ks_history.specs.declared.transaction.Transaction.{Transaction}
use Rattle.ks_history.specs.Machine.{TaskPlan, IsNetwork}
use Rattle.ks_history.specs.State.{State, Setup, IsSetup, has_task, pending_of}
use Rattle.ks_history.specs.Step.{refusal, pending_at}
use Rattle.ks_history.specs.Faithful.{IsFaithfulTask}
use Rattle.ks_history.specs.History.{at, IsHistory}
use Rattle.ks_law_restore.specs.Views.{are_topics_once}
use Rattle.ks_law_audit.specs.Rested.{HasTaken}
use Rattle.ks_law_audit.specs.Laws.{last_end, commit_of}
use Rattle.ks_audit_ledger.specs.declared.account.Account.{Account}
use Rattle.ks_audit_ledger.specs.declared.account.Open.{Open}
use Rattle.ks_audit_ledger.specs.Accounts.{blank, last_of}
use Rattle.ks_audit_ledger.specs.Kept.{IsKept}
use Rattle.ks_audit_ledger.specs.Ledgers.{IsLedger, is_decidable}
use Rattle.ks_task.specs.Tasks.{task_view, IsTaskOf}
use Rattle.ks_audit_commit.specs.declared.audited.AuditedTask.{AuditedTask}
use Rattle.ks_audit_commit.specs.Ends.{end_in}
use Rattle.ks_audit_commit.specs.Judging.{IsAudited, name_of}
use Rattle.ks_audit.specs.Audited.{IsUnfaithful}

-- a cluster of the tasks of this topology, by these rules, whose inputs stand once each
pub record MayJudge {W : Type 0} (plan : W → TaskPlan) (rules : Rules) (d : DraftView) (c : ClusterView W) : Type 0 where
  pub work : plan c.work ≡ work_of rules (plan_of d)
  pub made : IsSetup (setup_of plan c)
  pub once : (sub : ℕ) → are_topics_once ((plan c.work).inputs sub) ≡ true

abbrev pub names_in : List AuditedTask → List TaskId
names_in ts = map name_of ts

-- each of these tasks is audited
abbrev pub AreAudited : DraftView → Setup → List Entry → List AuditedTask → Type 0
AreAudited d setup journal [] = Unit {0}
AreAudited d setup journal (t ∷ ts) = IsAudited d setup journal t × AreAudited d setup journal ts

-- the accounts and the tasks that are kept are those of the journal
pub record IsPlayed (d : DraftView) (setup : Setup) (journal : List Entry) (ledger : List Account) (tasks : List AuditedTask) : Type 0 where
  pub made : IsSetup setup
  pub once : (sub : ℕ) → are_topics_once (setup.plan.inputs sub) ≡ true
  pub ledger_is : IsLedger setup journal ledger
  pub names : names_in tasks ≡ setup.tasks
  pub audited : AreAudited d setup journal tasks

-- ---- a commit, task by task
-- offsets are pending for the task, the commit is faithful for it, and it has taken what they name
pub record HasJudged (d : DraftView) (setup : Setup) (journal : List Entry) (w : ℕ) (t : AuditedTask) : Type 0 where
  pub p : Pending
  pub pending : pending_of (name_of t) (pending_at ((at setup journal).producer w)) ≡ Some p
  pub own : p.task ≡ name_of t
  pub faithful : IsFaithfulTask setup (at setup journal) w p
  pub of : IsTaskOf d t.task
  pub known : has_task (name_of t) setup.tasks ≡ true
  pub took : HasTaken setup (at setup journal) p (task_view t.task)
  pub ends : (q : PartId) → end_in q t.ends.items ≡ last_end (at setup journal) (name_of t) q

-- nothing is pending for the task, and no append named it
pub record HasNoPart (d : DraftView) (setup : Setup) (journal : List Entry) (w : ℕ) (t : AuditedTask) : Type 0 where
  pub none : pending_of (name_of t) (pending_at ((at setup journal).producer w)) ≡ None
  pub unnamed : (tx : Transaction) → ((at setup journal).producer w).undecided ≡ Some tx → has_task (name_of t) tx.tasks ≡ false
  pub audited : IsAudited d setup journal t

abbrev pub IsJudged : DraftView → Setup → List Entry → ℕ → AuditedTask → Type 0
IsJudged d setup journal w t = HasJudged d setup journal w t ⊎ HasNoPart d setup journal w t

abbrev pub AreJudged : DraftView → Setup → List Entry → ℕ → List AuditedTask → Type 0
AreJudged d setup journal w [] = Unit {0}
AreJudged d setup journal w (t ∷ ts) = IsJudged d setup journal w t × AreJudged d setup journal w ts

-- offsets that are pending for a task are the task's own
abbrev pub AreOwn : Open → Type 0
AreOwn o = (t : TaskId) (p : Pending) → last_of t o.pending ≡ Some p → p.task ≡ t

-- this account of a producer has these open
pub record HasOpen (setup : Setup) (journal : List Entry) (w : ℕ) (o : Open) : Type 0 where
  pub account : Account
  pub is : account.undecided ≡ Some o
  pub kept : IsKept setup journal w account

-- what the task says of the commit
pub record JudgesTask (d : DraftView) (setup : Setup) (journal : List Entry) (w : ℕ) (told : Bool) (old new : AuditedTask) : Type 0 where
  pub name : told ≡ true → name_of new ≡ name_of old
  pub yes : told ≡ true → IsJudged d setup journal w new
  pub no : told ≡ false → (tx : Transaction) → ((at setup journal).producer w).undecided ≡ Some tx → IsUnfaithful setup (at setup journal) w tx (name_of old)

-- so far these said yes; those that follow are as before
pub record AreSplit (d : DraftView) (setup : Setup) (journal : List Entry) (o : Open) (total place : ℕ) (ts : List AuditedTask) : Type 0 where
  pub done : List AuditedTask
  pub rest : List AuditedTask
  pub both : ts ≡ done ++ rest
  pub count : length done ≡ place
  pub long : length ts ≡ total
  pub names : (w : ℕ) → HasOpen setup journal w o → names_in ts ≡ setup.tasks
  pub judged : (w : ℕ) → HasOpen setup journal w o → AreJudged d setup journal w done
  pub audited : AreAudited d setup journal rest

-- the first of the cluster's tasks, in their order, for which a transaction isn't faithful
pub record IsFirstOf (setup : Setup) (s : State) (w : ℕ) (tx : Transaction) (t : TaskId) : Type 0 where
  pub front : List TaskId
  pub rest : List TaskId
  pub order : setup.tasks ≡ front ++ t ∷ rest
  pub this : IsUnfaithful setup s w tx t
  pub first : (u : TaskId) → has_task u front ≡ true → IsUnfaithful setup s w tx u → ⊥

-- what all tasks say of the commit: none that it isn't faithful, or the first
pub record JudgesAll (d : DraftView) (setup : Setup) (journal : List Entry) (w : ℕ) (found : Option TaskId) (ts : List AuditedTask) : Type 0 where
  pub names : found ≡ None → names_in ts ≡ setup.tasks
  pub all : found ≡ None → AreJudged d setup journal w ts
  pub first : (t : TaskId) → found ≡ Some t → (tx : Transaction) → ((at setup journal).producer w).undecided ≡ Some tx → IsFirstOf setup (at setup journal) w tx t

-- ---- behind a commit
pub record IsMade (setup : Setup) (journal : List Entry) (w epoch : ℕ) : Type 0 where
  pub network : IsNetwork setup.plan
  pub before : IsHistory setup journal
  pub history : IsHistory setup (journal ++ commit_of w epoch ∷ [])
  pub accepted : refusal setup (at setup journal) (Decide w epoch true) ≡ None

-- these rest behind the commit already
pub record AreResting (d : DraftView) (setup : Setup) (journal : List Entry) (w epoch : ℕ) (place : ℕ) (ts : List AuditedTask) : Type 0 where
  pub done : List AuditedTask
  pub rest : List AuditedTask
  pub both : ts ≡ done ++ rest
  pub count : length done ≡ place
  pub audited : AreAudited d setup (journal ++ commit_of w epoch ∷ []) done
  pub judged : AreJudged d setup journal w rest

-- ---- the commit of an entry
-- the producer whose commit a request is, where it is accepted
abbrev pub commit_at : List Account → Request → Option ℕ
commit_at ledger (Decide w epoch true) = if is_decidable (get_or ledger w blank) epoch then Some w else None
commit_at ledger request = None
