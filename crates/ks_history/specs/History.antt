-- A journal: entries judged one by one, each in the state that those before it leave.
use Rattle.std.specs.Prelude.{◌≡◌, ℕ, ◌<◌, ◌≤◌, ◌==◌, ◌&&◌, nat_le, Bool, true, false, if◌then◌else◌, Some, None, List, [], ◌∷◌, ◌++◌, length}
use Rattle.ks_record.specs.declared.record.TaskId.{TaskId}
use Rattle.ks_history.specs.declared.journal.Request.{Request}
use Rattle.ks_history.specs.declared.journal.Request.TheVariants.{Produce, Init, Add, Append, SendOffsets, Decide, MarkNext, Join, Expire, Hold, Probe, Assign, Park, Unpark}
use Rattle.ks_history.specs.declared.journal.Entry.{Entry}
use Rattle.ks_history.specs.declared.transaction.Transaction.{Transaction}
use Rattle.ks_history.specs.Machine.{has_topic, part_of}
use Rattle.ks_history.specs.State.{State, Setup, start, has_task, IsPart}
use Rattle.ks_history.specs.Step.{refusal, reply_to, after}
use Rattle.ks_history.specs.Faithful.{IsFaithful}

-- the state after some entries
abbrev pub state_after : Setup → State → List Entry → State
state_after setup s [] = s
state_after setup s (entry ∷ entries) = state_after setup (after setup s entry.request) entries

-- the cluster after a journal
abbrev pub at : Setup → List Entry → State
at setup journal = state_after setup start journal

-- what holds of each entry in the state before it
abbrev pub Each : (Setup → State → Entry → Type 0) → Setup → State → List Entry → Type 0
Each P setup s [] = Unit {0}
Each P setup s (entry ∷ entries) = P setup s entry × Each P setup (after setup s entry.request) entries

-- ---- the conditions under which a request may be made
-- pairs of a task of the cluster and a worker
abbrev pub are_places : Setup → List (TaskId × ℕ) → Bool
are_places setup [] = true
are_places setup (pair ∷ pairs) = (has_task pair.0 setup.tasks && nat_le pair.1 16) && are_places setup pairs

abbrev pub are_tasks : Setup → List (TaskId × ℕ) → Bool
are_tasks setup [] = true
are_tasks setup (pair ∷ pairs) = has_task pair.0 setup.tasks && are_tasks setup pairs

abbrev pub names_topic : ℕ → List (ℕ × ℕ) → Bool
names_topic topic [] = false
names_topic topic (pair ∷ pairs) = if topic == pair.0 then true else names_topic topic pairs

-- offsets of inputs of a task, none twice, none past its partition's end
abbrev pub are_offsets : Setup → State → TaskId → List (ℕ × ℕ) → Bool
are_offsets setup s t [] = true
are_offsets setup s t (pair ∷ pairs) =
    if names_topic pair.0 pairs
    then false
    else (has_topic pair.0 (setup.plan.inputs t.sub) && nat_le pair.1 (length (s.partition (part_of pair.0 t)))) && are_offsets setup s t pairs

abbrev pub Meets : Setup → State → Request → Type 0
Meets setup s (Produce p rec) = (p.topic < setup.plan.sources) × IsPart setup p
Meets setup s (Init w) = w ≤ 16
Meets setup s (Add w e p) = (w ≤ 16) × IsPart setup p
Meets setup s (Append w e number t p recs) = (w ≤ 16) × IsPart setup p × (has_task t setup.tasks ≡ true)
Meets setup s (SendOffsets w e g t offsets order late) = (w ≤ 16) × (has_task t setup.tasks ≡ true) × (are_offsets setup s t offsets ≡ true)
Meets setup s (Decide w e commit) = w ≤ 16
Meets setup s (MarkNext w) = w ≤ 16
Meets setup s (Join w) = w ≤ 16
Meets setup s (Expire w) = w ≤ 16
Meets setup s (Hold w held) = (w ≤ 16) × (are_tasks setup held ≡ true)
Meets setup s (Probe w g) = w ≤ 16
Meets setup s (Assign w g a) = (w ≤ 16) × (are_places setup a.active ≡ true) × (are_places setup a.standby ≡ true) × (are_places setup a.warmup ≡ true)
Meets setup s (Park instance t) = (instance ≤ 3) × (has_task t setup.tasks ≡ true)
Meets setup s (Unpark instance t) = (instance ≤ 3) × (has_task t setup.tasks ≡ true)

-- ---- legal and faithful journals
-- the request meets its conditions, and the reply is that of the step
pub record IsStep (setup : Setup) (s : State) (entry : Entry) : Type 0 where
  pub meets : Meets setup s entry.request
  pub reply : entry.reply ≡ reply_to setup s entry.request

-- the replies are those of the steps, one after the other, from the empty cluster
abbrev pub IsLegal : Setup → List Entry → Type 0
IsLegal setup journal = Each IsStep setup start journal

-- an accepted decision to commit finds the transaction faithful
abbrev pub CommitsFaithfully : Setup → State → Request → Type 0
CommitsFaithfully setup s (Decide w e true) = refusal setup s (Decide w e true) ≡ None → (tx : Transaction) → (s.producer w).undecided ≡ Some tx → IsFaithful setup s w tx
CommitsFaithfully setup s _ = Unit {0}

abbrev pub IsFaithfulEntry : Setup → State → Entry → Type 0
IsFaithfulEntry setup s entry = CommitsFaithfully setup s entry.request

-- each accepted commit is faithful in the journal just before it
abbrev pub IsFaithfulJournal : Setup → List Entry → Type 0
IsFaithfulJournal setup journal = Each IsFaithfulEntry setup start journal

pub record IsHistory (setup : Setup) (journal : List Entry) : Type 0 where
  pub legal : IsLegal setup journal
  pub faithful : IsFaithfulJournal setup journal

abbrev pub IsPrefix : List Entry → List Entry → Type 0
IsPrefix front whole = (rest : List Entry) × (whole ≡ front ++ rest)
