-- What an account tells of the offsets of a transaction's records.
use Rattle.std.specs.Prelude.{◌≡◌, ℕ, ◌&&◌, cond, if◌then◌else◌, List, [], ◌∷◌, ◌++◌}
use Rattle.ks_record.specs.declared.record.PartId.{PartId}
use Rattle.ks_record.specs.declared.record.TaskId.{TaskId}
use Rattle.ks_record.specs.Parts.{same_part, same_task}
use Rattle.ks_history.specs.declared.journal.Entry.{Entry}
use Rattle.ks_history.specs.Partition.{Logged}
use Rattle.ks_history.specs.State.{Setup}
use Rattle.ks_history.specs.History.{at, IsStep}
use Rattle.ks_law_audit.specs.Logged.{logged_at, logged}
use Rattle.ks_audit_ledger.specs.declared.account.Account.{Account}
use Rattle.ks_audit_ledger.specs.declared.account.Sent.{Sent}
use Rattle.ks_audit_ledger.specs.Accounts.{opened, noted, owner_of, is_owner}

-- the records for a task in a partition, where they stand
abbrev pub logged_in : TaskId → PartId → List Sent → List Logged
logged_in t q [] = []
logged_in t q (x ∷ xs) = if same_task t x.task && same_part q x.part then logged_at x.first x.task x.recs ++ logged_in t q xs else logged_in t q xs

abbrev pub HasOffsets : Setup → List Entry → ℕ → Account → Type 0
HasOffsets setup journal w a = (t : TaskId) (q : PartId) → logged_in t q (opened a.undecided).sent ≡ logged setup journal w t q

-- once an entry is noted, they are those of the journal with it
abbrev pub OffsetsStay : Type 0
OffsetsStay = (setup : Setup) (journal : List Entry) (entry : Entry) (w : ℕ) (a : Account) → IsStep setup (at setup journal) entry → HasOffsets setup journal w a →
    HasOffsets setup (journal ++ entry ∷ []) w (cond (is_owner w (owner_of entry.request)) (noted a entry) a)
