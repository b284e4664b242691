-- Which refusals the requests of a commit can get (KIP-98, KIP-447).
use Rattle.std.specs.Prelude.{◌≡◌, ◌≢◌, ◌⊎◌, ◌≤◌, ℕ, Bool, true, Some, None, List, [], ◌++◌}
use Rattle.ks_record.specs.declared.record.PartId.{PartId}
use Rattle.ks_record.specs.declared.record.TaskId.{TaskId}
use Rattle.ks_record.specs.Records.{Record as Rec}
use Rattle.ks_record.specs.declared.assignment.Refused.{Refused}
use Rattle.ks_record.specs.declared.assignment.Refused.TheVariants.{Fenced, OldGeneration, MarkersWaiting}
use Rattle.ks_history.specs.declared.journal.Entry.{Entry}
use Rattle.ks_history.specs.declared.journal.Request.TheVariants.{Add, Append, SendOffsets, Decide}
use Rattle.ks_history.specs.Partition.{count_sent}
use Rattle.ks_history.specs.State.{State, Setup, has_part}
use Rattle.ks_history.specs.Step.{refusal, tx_of}
use Rattle.ks_history.specs.History.{at, IsHistory}
use Rattle.ks_history.specs.Touched.{untouched}
use Rattle.ks_law_sharing.specs.Tasks.{IsAssigned}

-- the caller is a zombie: another has its number, or the group went on without it
abbrev pub IsFencing : Refused → Type 0
IsFencing (Fenced epoch) = Unit {0}
IsFencing (OldGeneration generation) = Unit {0}
IsFencing _ = ⊥

abbrev pub IsMarkersWaiting : Refused → Type 0
IsMarkersWaiting (MarkersWaiting count) = Unit {0}
IsMarkersWaiting _ = ⊥

-- the producer of this epoch has markers that wait, and that is why
pub record IsWaiting (s : State) (w e : ℕ) (r : Refused) : Type 0 where
  pub epoch : (s.producer w).epoch ≡ e
  pub why : IsMarkersWaiting r
  pub waits : (s.producer w).waiting ≢ []

-- ---- the laws
abbrev pub AddRefused : Type 0
AddRefused = (setup : Setup) (s : State) (w e : ℕ) (p : PartId) (r : Refused) →
    refusal setup s (Add w e p) ≡ Some r → IsFencing r ⊎ IsWaiting s w e r

abbrev pub AppendRefused : Type 0
AppendRefused =
    (setup : Setup) (s : State) (w e number : ℕ) (t : TaskId) (p : PartId) (rs : List Rec) (r : Refused) →
    refusal setup s (Append w e number t p rs) ≡ Some r →
    has_part p (tx_of (s.producer w)).parts ≡ true → number ≡ count_sent w e (s.partition p) → IsFencing r

abbrev pub OffsetsRefused : Type 0
OffsetsRefused =
    (setup : Setup) (s : State) (w e g : ℕ) (t : TaskId) (offsets order : List (ℕ × ℕ)) (late : ℕ) (r : Refused) →
    refusal setup s (SendOffsets w e g t offsets order late) ≡ Some r →
    (s.generation ≡ g → IsAssigned s w g t) → IsFencing r ⊎ IsWaiting s w e r

abbrev pub DecideRefused : Type 0
DecideRefused = (setup : Setup) (s : State) (w e : ℕ) (commit : Bool) (r : Refused) →
    refusal setup s (Decide w e commit) ≡ Some r → (s.producer w).undecided ≢ None → IsFencing r

abbrev pub MarkersWaitedBefore : Type 0
MarkersWaitedBefore = (setup : Setup) (journal more : List Entry) (w e : ℕ) (r : Refused) →
    IsHistory setup (journal ++ more) → untouched w more ≡ true → e ≤ ((at setup journal).producer w).epoch →
    IsWaiting (at setup (journal ++ more)) w e r → ((at setup journal).producer w).waiting ≢ []
