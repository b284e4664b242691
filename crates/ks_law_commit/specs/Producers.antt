-- What a worker remembers of its producer between its commits (KIP-98: its epoch, its transaction, its sequence numbers).
use Rattle.std.specs.Prelude.{◌≡◌, ◌≢◌, ◌≤◌, ◌+◌, ℕ, Bool, None, List, [], ◌∷◌, ◌++◌}
use Rattle.ks_record.specs.declared.record.PartId.{PartId}
use Rattle.ks_record.specs.declared.assignment.Refused.{Refused}
use Rattle.ks_record.specs.declared.assignment.Refused.TheVariants.{Fenced}
use Rattle.ks_history.specs.declared.journal.Entry.{Entry}
use Rattle.ks_history.specs.declared.journal.Request.TheVariants.{Init, Decide}
use Rattle.ks_history.specs.declared.journal.Reply.TheVariants.{Done, Number, Refused as Refuse}
use Rattle.ks_history.specs.Partition.{count_sent}
use Rattle.ks_history.specs.State.{Setup}
use Rattle.ks_history.specs.History.{at, IsHistory}
use Rattle.ks_history.specs.Touched.{touched}

-- while nobody else has used the worker's number, these are the numbers of records that it has sent in its epoch
abbrev pub AreCounts : Setup → List Entry → ℕ → ℕ → ℕ → (PartId → ℕ) → Type 0
AreCounts setup journal w e last counts =
    touched w journal ≡ last → (q : PartId) → counts q ≡ count_sent w e ((at setup journal).partition q)

-- the producer's epoch is of the past; while nobody else has used its number, nothing of it is undecided, and the counts are right
pub record IsRemembered (setup : Setup) (journal : List Entry) (w e last : ℕ) (counts : PartId → ℕ) : Type 0 where
  pub past : e ≤ ((at setup journal).producer w).epoch
  pub idle : touched w journal ≡ last → ((at setup journal).producer w).undecided ≡ None
  pub numbered : AreCounts setup journal w e last counts

abbrev pub init_entry : ℕ → ℕ → Entry
init_entry w e = record { request = Init w; reply = Number e }

abbrev pub decided_entry : ℕ → ℕ → Bool → Entry
decided_entry w e commit = record { request = Decide w e commit; reply = Done }

abbrev pub refused_entry : ℕ → ℕ → Bool → Refused → Entry
refused_entry w e commit r = record { request = Decide w e commit; reply = Refuse r }

-- ---- the laws
-- a worker that never did anything, or lost all
abbrev pub NothingIsRemembered : Type 0
NothingIsRemembered = (setup : Setup) (journal : List Entry) (w : ℕ) → IsHistory setup journal →
    IsRemembered setup journal w 0 0 (λ q. 0)

-- whatever is written
abbrev pub RememberedStays : Type 0
RememberedStays = (setup : Setup) (journal more : List Entry) (w e last : ℕ) (counts : PartId → ℕ) →
    IsHistory setup (journal ++ more) → last ≤ touched w journal →
    IsRemembered setup journal w e last counts → IsRemembered setup (journal ++ more) w e last counts

abbrev pub CountsStay : Type 0
CountsStay = (setup : Setup) (journal more : List Entry) (w e last : ℕ) (counts : PartId → ℕ) →
    IsHistory setup (journal ++ more) → last ≤ touched w journal →
    AreCounts setup journal w e last counts → AreCounts setup (journal ++ more) w e last counts

-- a new epoch, where no record of it stands before (as in every history: none is of a later epoch than its producer's)
abbrev pub InitIsRemembered : Type 0
InitIsRemembered = (setup : Setup) (journal : List Entry) (w e : ℕ) → IsHistory setup (journal ++ init_entry w e ∷ []) →
    ((q : PartId) → count_sent w (((at setup journal).producer w).epoch + 1) ((at setup journal).partition q) ≡ 0) →
    IsRemembered setup (journal ++ init_entry w e ∷ []) w e (touched w (journal ++ init_entry w e ∷ [])) (λ q. 0)

-- entries of others, and then a decision is accepted
abbrev pub DecisionIsRemembered : Type 0
DecisionIsRemembered =
    (setup : Setup) (journal others : List Entry) (w e last : ℕ) (commit : Bool) (counts : PartId → ℕ) →
    IsHistory setup (journal ++ (others ++ decided_entry w e commit ∷ [])) → last ≤ touched w journal →
    touched w (journal ++ others) ≡ last → AreCounts setup journal w e last counts →
    let now = journal ++ (others ++ decided_entry w e commit ∷ []) in
    IsRemembered setup now w e (touched w now) counts

-- entries of others, and then a decision is refused, not since the producer is fenced: nothing was undecided
abbrev pub RefusalIsRemembered : Type 0
RefusalIsRemembered =
    (setup : Setup) (journal others : List Entry) (w e last : ℕ) (commit : Bool) (r : Refused) (counts : PartId → ℕ) →
    IsHistory setup (journal ++ (others ++ refused_entry w e commit r ∷ [])) → last ≤ touched w journal →
    ((epoch : ℕ) → r ≢ Fenced epoch) → AreCounts setup journal w e last counts →
    IsRemembered setup (journal ++ (others ++ refused_entry w e commit r ∷ [])) w e last counts
