-- What entries of a worker and of others together make of its transaction, its tasks and its account: what a loop over the requests of
-- a commit carries.
use Rattle.std.specs.Prelude.{◌≡◌, ◌+◌, ℕ, true, List, [], ◌∷◌, ◌++◌}
use Rattle.ks_record.specs.declared.record.TaskId.{TaskId}
use Rattle.ks_history.specs.declared.journal.Entry.{Entry}
use Rattle.ks_history.specs.declared.journal.Request.{Request}
use Rattle.ks_history.specs.declared.journal.Request.TheVariants.{Add, Append, SendOffsets}
use Rattle.ks_history.specs.Machine.{IsNetwork}
use Rattle.ks_history.specs.State.{State, Setup}
use Rattle.ks_history.specs.Follows.{TaskView}
use Rattle.ks_history.specs.History.{at, IsHistory}
use Rattle.ks_history.specs.Touched.{touches, touched, untouched}
use Rattle.ks_law_restore.specs.Commits.{NoCommit}
use Rattle.ks_law_sharing.specs.Tasks.{IsAssigned, IsActive, HasSeen}
use Rattle.ks_law_commit.specs.Building.{Contents, with_part, with_records, with_pending_offsets, IsBuilding, adds_to}
use Rattle.ks_law_commit.specs.Accounts.{IsAccount}

-- what a request puts into a transaction
abbrev pub added_by : Request → Contents → Contents
added_by (Add v e p) c = with_part p c
added_by (Append v e number t p rs) c = with_records t p rs c
added_by (SendOffsets v e g t offsets order late) c =
    with_pending_offsets (record { task = t; offsets = offsets; order = order; late = late }) c
added_by _ c = c

-- behind the journal stand these entries, `made` of them accepted requests of the worker, which remembered `last` and then `next`
pub record Advances (setup : Setup) (journal more : List Entry) (w e made last next : ℕ) (puts : Contents → Contents) : Type 0 where
  pub place : touched w (journal ++ more) ≡ next
  pub seen : (g : ℕ) → HasSeen setup journal w g last → HasSeen setup (journal ++ more) w g next
  pub building : (first : State) (c : Contents) →
      IsBuilding first (at setup journal) w e c → IsBuilding first (at setup (journal ++ more)) w e (puts c)
  pub active : (g : ℕ) (v : TaskView) → HasSeen setup journal w g last →
      IsActive setup journal w g last v → IsActive setup (journal ++ more) w g next v
  pub assigned : (g : ℕ) (t : TaskId) → IsAssigned (at setup journal) w g t → (at setup (journal ++ more)).generation ≡ g →
      IsAssigned (at setup (journal ++ more)) w g t × NoCommit setup (at setup journal) more t
  pub account : (base front : List Entry) (n : ℕ) → journal ≡ base ++ front →
      IsAccount w base front n last → IsAccount w base (front ++ more) (n + made) next

-- ---- the laws
abbrev pub OthersAdvance : Type 0
OthersAdvance = (setup : Setup) (journal more : List Entry) (w e last : ℕ) →
    IsNetwork setup.plan → IsHistory setup (journal ++ more) → untouched w more ≡ true → touched w journal ≡ last →
    ((at setup (journal ++ more)).producer w).epoch ≡ e → Advances setup journal more w e 0 last last (λ c. c)

abbrev pub RequestAdvances : Type 0
RequestAdvances = (setup : Setup) (journal : List Entry) (entry : Entry) (w e last : ℕ) →
    IsNetwork setup.plan → IsHistory setup (journal ++ entry ∷ []) →
    adds_to w entry.request ≡ true → touches w entry ≡ true → touched w journal ≡ last →
    Advances setup journal (entry ∷ []) w e 1 last (touched w (journal ++ entry ∷ [])) (added_by entry.request)

abbrev pub BothAdvance : Type 0
BothAdvance =
    (setup : Setup) (journal more others : List Entry) (w e m n first mid last : ℕ) (puts then_puts : Contents → Contents) →
    Advances setup journal more w e m first mid puts → Advances setup (journal ++ more) others w e n mid last then_puts →
    Advances setup journal (more ++ others) w e (m + n) first last (λ c. then_puts (puts c))
