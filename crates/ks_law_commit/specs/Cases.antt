-- What a worker's commit can come to: five cases, each said of the entries that stand in the journal since the commit began
-- (KIP-98: fencing and markers; KIP-447: a generation of the group fences its members).
use Rattle.std.specs.Prelude.{◌≡◌, ◌≢◌, ◌⊎◌, ℕ, suc, ◌≤◌, ◌==◌, ◌&&◌, Bool, true, false, Option, List, [], ◌∷◌, ◌++◌}
use Rattle.ks_record.specs.declared.record.TaskId.{TaskId}
use Rattle.ks_record.specs.declared.assignment.Refused.{Refused}
use Rattle.ks_history.specs.declared.journal.Entry.{Entry}
use Rattle.ks_history.specs.declared.journal.Request.{Request}
use Rattle.ks_history.specs.declared.journal.Request.TheVariants.{Add, Append, SendOffsets, Decide}
use Rattle.ks_history.specs.declared.journal.Reply.TheVariants.{Refused as Refuse}
use Rattle.ks_history.specs.declared.transaction.Pending.{Pending}
use Rattle.ks_history.specs.State.{Setup, pending_of}
use Rattle.ks_history.specs.Step.{pending_at}
use Rattle.ks_history.specs.History.{at}
use Rattle.ks_history.specs.Touched.{touched}
use Rattle.ks_law_sharing.specs.Refusals.{IsFencing, IsMarkersWaiting}
use Rattle.ks_law_commit.specs.Accounts.{accepted_of}
use Rattle.ks_law_commit.specs.Committing.{commit_entry}

-- the request is the worker's, with this epoch, and with this generation where it has one
abbrev pub carries : ℕ → ℕ → ℕ → Request → Bool
carries w e g (Add v d p) = (v == w) && (d == e)
carries w e g (Append v d number t p rs) = (v == w) && (d == e)
carries w e g (SendOffsets v d h t offsets order late) = (v == w) && ((d == e) && (h == g))
carries w e g (Decide v d commit) = (v == w) && (d == e)
carries w e g _ = false

-- one of these entries is such a request, and was refused so
pub record IsTurnedDown (more : List Entry) (w e g : ℕ) (Why : Refused → Type 0) : Type 0 where
  pub before : List Entry
  pub request : Request
  pub refused : Refused
  pub rest : List Entry
  pub is : more ≡ before ++ record { request = request; reply = Refuse refused } ∷ rest
  pub carried : carries w e g request ≡ true
  pub why : Why refused

-- the worker's commit was accepted while exactly these offsets were pending, and no marker of it waits at the end
pub record HasCommitted (setup : Setup) (journal more : List Entry) (w e : ℕ) (pending : TaskId → Option Pending) : Type 0 where
  pub before : List Entry
  pub rest : List Entry
  pub is : more ≡ before ++ commit_entry w e ∷ rest
  pub offsets : (t : TaskId) → pending_of t (pending_at ((at setup (journal ++ before)).producer w)) ≡ pending t
  pub marked : ((at setup (journal ++ more)).producer w).waiting ≡ []

-- a worker of this epoch and generation, which remembered `last` and had seen `journal`, has seen `more` since, and made `made` entries
-- of it; these offsets were to be committed:
abbrev pub CommitCases : Setup → List Entry → List Entry → ℕ → ℕ → ℕ → ℕ → ℕ → (TaskId → Option Pending) → Type 0
CommitCases setup journal more w e g made last pending =
    -- they are committed
    HasCommitted setup journal more w e pending
    -- or the worker is fenced, or of an old generation
    ⊎ IsTurnedDown more w e g IsFencing
    -- or markers wait, and some of the worker's waited before
    ⊎ (IsTurnedDown more w e g IsMarkersWaiting × ((at setup journal).producer w).waiting ≢ [])
    -- or more requests of its number were accepted than it made: somebody else used it
    ⊎ (suc made ≤ accepted_of w more)
    -- or somebody else had used it before
    ⊎ (touched w journal ≢ last)
