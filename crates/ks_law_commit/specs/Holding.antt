-- What a commit makes of the tasks that its worker holds: when it is on its way, when it is committed, and when it is aborted.
use Rattle.std.specs.Prelude.{◌≡◌, ℕ, true, false, None, List, [], ◌∷◌, ◌++◌}
use Rattle.ks_record.specs.declared.record.TaskId.{TaskId}
use Rattle.ks_history.specs.declared.journal.Entry.{Entry}
use Rattle.ks_history.specs.declared.journal.Request.TheVariants.{Decide}
use Rattle.ks_history.specs.declared.journal.Reply.TheVariants.{Done}
use Rattle.ks_history.specs.Machine.{IsNetwork}
use Rattle.ks_history.specs.State.{Setup}
use Rattle.ks_history.specs.Step.{has_pending}
use Rattle.ks_history.specs.Follows.{TaskView}
use Rattle.ks_history.specs.History.{at, IsHistory}
use Rattle.ks_history.specs.Touched.{touched, untouched}
use Rattle.ks_law_restore.specs.Views.{WorkView, IsFrozen, committed_view}
use Rattle.ks_law_restore.specs.Commits.{NoCommit}
use Rattle.ks_law_sharing.specs.Tasks.{HasSeen}
use Rattle.ks_law_commit.specs.Building.{Contents}
use Rattle.ks_law_commit.specs.Committing.{Holds, AreOpenEnds, commit_entry}
use Rattle.ks_law_commit.specs.Held.{IsHeld}
use Rattle.ks_law_commit.specs.Sending.{IsSending}

abbrev pub abort_entry : ℕ → ℕ → Entry
abort_entry w e = record { request = Decide w e false; reply = Done }

-- what a worker knows of its commit on its way: it can't know whether somebody had used its number before, but where nobody has up to
-- now, nobody had
pub record IsOnItsWay (setup : Setup) (journal more : List Entry) (w e g made first last : ℕ) (c : Contents) : Type 0 where
  pub seen : HasSeen setup (journal ++ more) w g last
  pub back : touched w (journal ++ more) ≡ last → touched w journal ≡ first
  pub sending : touched w journal ≡ first → IsSending setup journal more w e made first last c

-- ---- the laws
-- the worker knows its own generation and place at every later moment
abbrev pub SeenAtLast : Type 0
SeenAtLast = (setup : Setup) (journal more : List Entry) (w g last : ℕ) →
    HasSeen setup journal w g last → HasSeen setup (journal ++ more) w g (touched w (journal ++ more))

abbrev pub SendingHasSeen : Type 0
SendingHasSeen = (setup : Setup) (journal more others : List Entry) (w e g made first last : ℕ) (c : Contents) →
    HasSeen setup journal w g first → IsSending setup journal more w e made first last c →
    HasSeen setup (journal ++ (more ++ others)) w g last

-- what a producer has pending, others don't commit, whatever becomes of the generation
abbrev pub PendingRests : Type 0
PendingRests = (setup : Setup) (journal more : List Entry) (w : ℕ) (t : TaskId) →
    IsHistory setup (journal ++ more) → untouched w more ≡ true → ((at setup journal).producer w).waiting ≡ [] →
    ((at setup (journal ++ more)).producer w).epoch ≡ ((at setup journal).producer w).epoch →
    has_pending ((at setup journal).producer w) t ≡ true → NoCommit setup (at setup journal) more t

-- while a commit is on its way, and whatever others write, its worker's tasks are held at the place that it remembers
abbrev pub SendingKeepsHeld : Type 0
SendingKeepsHeld =
    (setup : Setup) (journal more others : List Entry) (w e g made first last : ℕ) (c : Contents) (v : TaskView) →
    IsNetwork setup.plan → IsHistory setup (journal ++ (more ++ others)) → HasSeen setup journal w g first →
    IsSending setup journal more w e made first last c →
    IsHeld setup journal w g first v → IsHeld setup (journal ++ (more ++ others)) w g last v

-- a request that is accepted tells that nobody had used the number
abbrev pub WayIsSending : Type 0
WayIsSending =
    (setup : Setup) (journal more others : List Entry) (w e g made first last : ℕ) (c : Contents) →
    touched w (journal ++ (more ++ others)) ≡ last → IsOnItsWay setup journal more w e g made first last c →
    IsSending setup journal more w e made first last c

-- whoever used the number, and whatever becomes of the commit's next request: where it is refused, or none is made
abbrev pub WayKeepsHeld : Type 0
WayKeepsHeld =
    (setup : Setup) (journal more others : List Entry) (w e g made first last : ℕ) (c : Contents) (v : TaskView) →
    IsNetwork setup.plan → IsHistory setup (journal ++ (more ++ others)) → HasSeen setup journal w g first →
    IsOnItsWay setup journal more w e g made first last c →
    IsHeld setup journal w g first v → IsHeld setup (journal ++ (more ++ others)) w g last v

-- a task whose work was committed: the group may have gone on since the work was put
abbrev pub CommitHolds : Type 0
CommitHolds =
    (setup : Setup) (journal more others : List Entry) (w e g made first last : ℕ) (c : Contents) (v : TaskView)
    (f : WorkView) (ends : List (ℕ × ℕ)) →
    IsNetwork setup.plan → IsHistory setup (journal ++ (more ++ others ++ commit_entry w e ∷ [])) →
    HasSeen setup journal w g first → ((at setup journal).producer w).undecided ≡ None →
    IsSending setup journal more w e made first last c → (at setup (journal ++ more)).generation ≡ g →
    touched w (journal ++ (more ++ others)) ≡ last →
    IsHeld setup journal w g first v → IsFrozen setup.plan v f → Holds c f →
    AreOpenEnds setup (at setup (journal ++ more)) w e f ends →
    let now = journal ++ (more ++ others ++ commit_entry w e ∷ []) in
    IsHeld setup now w g (touched w now) (committed_view v ends)

-- a task of which the committed transaction has no work
abbrev pub CommitKeepsOthers : Type 0
CommitKeepsOthers =
    (setup : Setup) (journal more others : List Entry) (w e g made first last : ℕ) (c : Contents) (v : TaskView) →
    IsNetwork setup.plan → IsHistory setup (journal ++ (more ++ others ++ commit_entry w e ∷ [])) →
    HasSeen setup journal w g first → ((at setup journal).producer w).undecided ≡ None →
    IsSending setup journal more w e made first last c → touched w (journal ++ (more ++ others)) ≡ last →
    c.pending v.task ≡ None → IsHeld setup journal w g first v →
    let now = journal ++ (more ++ others ++ commit_entry w e ∷ []) in
    IsHeld setup now w g (touched w now) v

-- an abort leaves each task as it was
abbrev pub AbortKeeps : Type 0
AbortKeeps =
    (setup : Setup) (journal more others : List Entry) (w e g made first last : ℕ) (c : Contents) (v : TaskView) →
    IsNetwork setup.plan → IsHistory setup (journal ++ (more ++ others ++ abort_entry w e ∷ [])) →
    HasSeen setup journal w g first → IsSending setup journal more w e made first last c →
    touched w (journal ++ (more ++ others)) ≡ last → IsHeld setup journal w g first v →
    let now = journal ++ (more ++ others ++ abort_entry w e ∷ []) in
    IsHeld setup now w g (touched w now) v
