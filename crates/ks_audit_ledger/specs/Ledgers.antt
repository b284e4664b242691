-- The accounts of all producers.
use Rattle.std.specs.Prelude.{◌≡◌, ℕ, ◌==◌, ◌&&◌, ◌≤◌, ◌↔◌, Bool, true, cond, List, [], ◌∷◌, ◌++◌, length, get_or, set, Option, Some, None, replicate, is_some}
use Rattle.ks_history.specs.declared.journal.Request.TheVariants.{Decide}
use Rattle.ks_history.specs.declared.journal.Entry.{Entry}
use Rattle.ks_history.specs.State.{Setup}
use Rattle.ks_history.specs.Step.{refusal}
use Rattle.ks_history.specs.History.{at, IsStep}
use Rattle.ks_audit_ledger.specs.declared.account.Account.{Account}
use Rattle.ks_audit_ledger.specs.Accounts.{IsAccount, blank, noted, owner_of, is_owner}
use Rattle.ks_audit_ledger.specs.Kept.{IsKept}

pub record IsLedger (setup : Setup) (journal : List Entry) (l : List Account) : Type 0 where
  pub count : length l ≡ 17
  pub each : (w : ℕ) → w ≤ 16 → IsKept setup journal w (get_or l w blank)

abbrev pub noted_at : List Account → Entry → Option ℕ → List Account
noted_at l entry None = l
noted_at l entry (Some w) = set l w (noted (get_or l w blank) entry)

-- after an entry
abbrev pub ledger_after : List Account → Entry → List Account
ledger_after l entry = noted_at l entry (owner_of entry.request)

-- a decision in this epoch is accepted
abbrev pub is_decidable : Account → ℕ → Bool
is_decidable a e = (e == a.epoch) && is_some a.undecided

-- ---- the laws
abbrev pub LedgerStarts : Type 0
LedgerStarts = (setup : Setup) → IsLedger setup [] (replicate 17 blank)

abbrev pub AccountStays : Type 0
AccountStays = (setup : Setup) (journal : List Entry) (entry : Entry) (w : ℕ) (a : Account) → IsStep setup (at setup journal) entry → IsAccount setup journal w a →
    IsAccount setup (journal ++ entry ∷ []) w (cond (is_owner w (owner_of entry.request)) (noted a entry) a)

abbrev pub LedgerStays : Type 0
LedgerStays = (setup : Setup) (journal : List Entry) (entry : Entry) (l : List Account) → IsStep setup (at setup journal) entry → IsLedger setup journal l →
    IsLedger setup (journal ++ entry ∷ []) (ledger_after l entry)

abbrev pub DecisionIsTold : Type 0
DecisionIsTold = (setup : Setup) (journal : List Entry) (w e : ℕ) (commit : Bool) (a : Account) → IsAccount setup journal w a →
    (is_decidable a e ≡ true) ↔ (refusal setup (at setup journal) (Decide w e commit) ≡ None)
