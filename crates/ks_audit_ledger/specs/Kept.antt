-- All that an account tells of a journal.
use Rattle.std.specs.Prelude.{◌≡◌, ℕ, true, cond, List, Some}
use Rattle.ks_record.specs.declared.record.TaskId.{TaskId}
use Rattle.ks_history.specs.declared.journal.Entry.{Entry}
use Rattle.ks_history.specs.declared.transaction.Pending.{Pending}
use Rattle.ks_history.specs.State.{Setup, has_task}
use Rattle.ks_history.specs.History.{at, IsStep}
use Rattle.ks_audit_ledger.specs.declared.account.Account.{Account}
use Rattle.ks_audit_ledger.specs.Accounts.{IsAccount, opened, last_of, noted, owner_of, is_owner}
use Rattle.ks_audit_ledger.specs.Offsets.{HasOffsets}

-- the tasks that it names are the cluster's, and offsets for a task are that task's
pub record KnowsTasks (setup : Setup) (a : Account) : Type 0 where
  pub tasks : (t : TaskId) → has_task t (opened a.undecided).tasks ≡ true → has_task t setup.tasks ≡ true
  pub pending : (t : TaskId) (p : Pending) → last_of t (opened a.undecided).pending ≡ Some p → has_task t setup.tasks ≡ true
  pub own : (t : TaskId) (p : Pending) → last_of t (opened a.undecided).pending ≡ Some p → p.task ≡ t

pub record IsKept (setup : Setup) (journal : List Entry) (w : ℕ) (a : Account) : Type 0 where
  pub account : IsAccount setup journal w a
  pub offsets : HasOffsets setup journal w a
  pub known : KnowsTasks setup a

-- once an entry is noted whose conditions held, it still names none but those
abbrev pub TasksStay : Type 0
TasksStay = (setup : Setup) (journal : List Entry) (entry : Entry) (w : ℕ) (a : Account) → IsStep setup (at setup journal) entry → KnowsTasks setup a →
    KnowsTasks setup (cond (is_owner w (owner_of entry.request)) (noted a entry) a)
