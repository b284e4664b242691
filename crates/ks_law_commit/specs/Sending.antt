-- A transaction on its way from a commit's beginning, when a worker had seen a journal and nothing of it was undecided.
use Rattle.std.specs.Prelude.{◌≡◌, ◌≢◌, ◌⊎◌, ◌≤◌, ◌+◌, ℕ, suc, true, Some, None, List, [], ◌∷◌, ◌++◌}
use Rattle.ks_record.specs.declared.record.TaskId.{TaskId}
use Rattle.ks_record.specs.declared.assignment.Refused.{Refused}
use Rattle.ks_history.specs.declared.journal.Entry.{Entry}
use Rattle.ks_history.specs.declared.journal.Request.{Request}
use Rattle.ks_history.specs.declared.journal.Request.TheVariants.{Add, Append, SendOffsets, Decide}
use Rattle.ks_history.specs.declared.transaction.Pending.{Pending}
use Rattle.ks_history.specs.Partition.{count_sent}
use Rattle.ks_history.specs.Machine.{IsNetwork}
use Rattle.ks_history.specs.State.{State, Setup, pending_of}
use Rattle.ks_history.specs.Step.{refusal, pending_at}
use Rattle.ks_history.specs.Follows.{TaskView}
use Rattle.ks_history.specs.History.{at, IsHistory, CommitsFaithfully}
use Rattle.ks_history.specs.Touched.{touches, touched, untouched}
use Rattle.ks_law_sharing.specs.Tasks.{IsAssigned, IsActive, HasSeen}
use Rattle.ks_law_sharing.specs.Refusals.{IsFencing, IsMarkersWaiting}
use Rattle.ks_law_commit.specs.Building.{Contents, no_contents, adds_to}
use Rattle.ks_law_commit.specs.Committing.{HoldsWork}
use Rattle.ks_law_commit.specs.Accounts.{accepted_of}
use Rattle.ks_law_commit.specs.Advancing.{added_by, Advances}
use Rattle.ks_law_commit.specs.Cases.{carries}

-- the worker has made no request yet, and nobody else has used its number
pub record HasSentNothing (more : List Entry) (w made first last : ℕ) (c : Contents) : Type 0 where
  pub quiet : untouched w more ≡ true
  pub none : made ≡ 0
  pub same : last ≡ first
  pub contents : c ≡ no_contents

-- after some entries of others its first request began the transaction, which has these contents now
pub record HasBegun (setup : Setup) (journal more : List Entry) (w e made first last : ℕ) (c : Contents) : Type 0 where
  pub others : List Entry
  pub rest : List Entry
  pub is : more ≡ others ++ rest
  pub quiet : untouched w others ≡ true
  pub undecided : ((at setup (journal ++ others)).producer w).undecided ≡ None
  pub waiting : ((at setup (journal ++ others)).producer w).waiting ≡ []
  pub epoch : ((at setup (journal ++ others)).producer w).epoch ≡ e
  pub puts : Contents → Contents
  pub advances : Advances setup (journal ++ others) rest w e made first last puts
  pub contents : c ≡ puts no_contents

-- behind the journal stand these entries, `made` of them accepted requests of the worker, which remembered `first` and then `last`
pub record IsSending (setup : Setup) (journal more : List Entry) (w e made first last : ℕ) (c : Contents) : Type 0 where
  pub was : touched w journal ≡ first
  pub stage : HasSentNothing more w made first last c ⊎ HasBegun setup journal more w e made first last c

-- the request has what it takes not to be refused but for fencing and markers: an append its partition and the next number, offsets
-- an assigned task, a decision something to decide
abbrev pub IsPrepared : State → Contents → Request → Type 0
IsPrepared s c (Add v e p) = Unit {0}
IsPrepared s c (Append v e number t p rs) = (c.parts p ≡ true) × (number ≡ count_sent v e (s.partition p))
IsPrepared s c (SendOffsets v e g t offsets order late) = s.generation ≡ g → IsAssigned s v g t
IsPrepared s c (Decide v e commit) = (t : TaskId) × (p : Pending) × (c.pending t ≡ Some p)
IsPrepared s c _ = ⊥

-- ---- the laws
abbrev pub SendingBegins : Type 0
SendingBegins = (setup : Setup) (journal : List Entry) (w e first : ℕ) → touched w journal ≡ first →
    IsSending setup journal [] w e 0 first first no_contents

-- entries of others, and then an accepted request
abbrev pub SendingGains : Type 0
SendingGains =
    (setup : Setup) (journal more others : List Entry) (entry : Entry) (w e g made first last : ℕ) (c : Contents) →
    IsNetwork setup.plan → IsHistory setup (journal ++ (more ++ others ++ entry ∷ [])) →
    ((at setup journal).producer w).undecided ≡ None → adds_to w entry.request ≡ true → carries w e g entry.request ≡ true →
    touches w entry ≡ true → touched w (journal ++ (more ++ others)) ≡ last →
    IsSending setup journal more w e made first last c →
    IsSending setup journal (more ++ others ++ entry ∷ []) w e (made + 1) first
    (touched w (journal ++ (more ++ others ++ entry ∷ []))) (added_by entry.request c)

-- entries of others, among which somebody used the worker's number
abbrev pub SendingTouched : Type 0
SendingTouched = (setup : Setup) (journal more others : List Entry) (w e made first last : ℕ) (c : Contents) →
    IsSending setup journal more w e made first last c → touched w (journal ++ (more ++ others)) ≢ last →
    suc made ≤ accepted_of w (more ++ others)

-- entries of others, and then a request is refused; the epoch is of the past
abbrev pub SendingRefused : Type 0
SendingRefused =
    (setup : Setup) (journal more others : List Entry) (request : Request) (r : Refused) (w e g made first last : ℕ)
    (c : Contents) →
    IsNetwork setup.plan → IsHistory setup (journal ++ (more ++ others)) →
    ((at setup journal).producer w).undecided ≡ None → e ≤ ((at setup journal).producer w).epoch →
    carries w e g request ≡ true → touched w (journal ++ (more ++ others)) ≡ last →
    IsPrepared (at setup (journal ++ (more ++ others))) c request →
    refusal setup (at setup (journal ++ (more ++ others))) request ≡ Some r →
    IsSending setup journal more w e made first last c →
    IsFencing r ⊎ (IsMarkersWaiting r × ((at setup journal).producer w).waiting ≢ [])

abbrev pub SendingKeepsActive : Type 0
SendingKeepsActive =
    (setup : Setup) (journal more : List Entry) (w e g made first last : ℕ) (c : Contents) (v : TaskView) →
    IsNetwork setup.plan → IsHistory setup (journal ++ more) → HasSeen setup journal w g first →
    IsSending setup journal more w e made first last c → IsActive setup journal w g first v →
    IsActive setup (journal ++ more) w g last v

-- each task of which offsets are pending was active when the commit began, and the generation stands
abbrev pub SendingIsFaithful : Type 0
SendingIsFaithful =
    (setup : Setup) (journal more : List Entry) (w e g made first last : ℕ) (c : Contents) →
    IsNetwork setup.plan → IsHistory setup (journal ++ more) → HasSeen setup journal w g first →
    ((at setup journal).producer w).undecided ≡ None →
    IsSending setup journal more w e made first last c → HoldsWork setup (at setup (journal ++ more)) c →
    ((t : TaskId) (p : Pending) → c.pending t ≡ Some p → (v : TaskView) × (v.task ≡ t) × IsActive setup journal w g first v) →
    (at setup (journal ++ more)).generation ≡ g → CommitsFaithfully setup (at setup (journal ++ more)) (Decide w e true)

-- entries of others, and then a commit that isn't refused: what was pending at it
abbrev pub SendingCommits : Type 0
SendingCommits =
    (setup : Setup) (journal more others : List Entry) (w e made first last : ℕ) (c : Contents) (t : TaskId) →
    IsNetwork setup.plan → IsHistory setup (journal ++ (more ++ others)) →
    ((at setup journal).producer w).undecided ≡ None → touched w (journal ++ (more ++ others)) ≡ last →
    refusal setup (at setup (journal ++ (more ++ others))) (Decide w e true) ≡ None →
    IsSending setup journal more w e made first last c →
    pending_of t (pending_at ((at setup (journal ++ (more ++ others))).producer w)) ≡ c.pending t
