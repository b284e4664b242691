-- What the entries by which a journal grows commit for a task, and by whom.
use Rattle.std.specs.Prelude.{◌≡◌, ℕ, true, false, Option, Some, None, List, [], ◌∷◌, ◌++◌}
use Rattle.ks_record.specs.declared.record.TaskId.{TaskId}
use Rattle.ks_record.specs.declared.assignment.Refused.{Refused}
use Rattle.ks_history.specs.declared.journal.Request.{Request}
use Rattle.ks_history.specs.declared.journal.Request.TheVariants.{Produce, Init, Add, Append, SendOffsets, Decide, MarkNext, Join, Expire, Hold, Probe, Assign, Park, Unpark}
use Rattle.ks_history.specs.declared.journal.Entry.{Entry}
use Rattle.ks_history.specs.declared.transaction.Pending.{Pending}
use Rattle.ks_history.specs.State.{State, Setup, pending_of}
use Rattle.ks_history.specs.Step.{refusal, after, pending_at}

-- a worker, and what its commit has pending for a task
abbrev pub commit_by : ℕ → Option Pending → List (ℕ × Pending)
commit_by w None = []
commit_by w (Some p) = (w, p) ∷ []

-- only an accepted commit commits
abbrev pub commits_by : State → Request → Option Refused → TaskId → List (ℕ × Pending)
commits_by s (Decide w e true) None t = commit_by w (pending_of t (pending_at (s.producer w)))
commits_by s (Decide w e true) (Some refused) t = []
commits_by s (Decide w e false) r t = []
commits_by s (Produce p rec) r t = []
commits_by s (Init w) r t = []
commits_by s (Add w e p) r t = []
commits_by s (Append w e number u p rs) r t = []
commits_by s (SendOffsets w e g u offsets order late) r t = []
commits_by s (MarkNext w) r t = []
commits_by s (Join w) r t = []
commits_by s (Expire w) r t = []
commits_by s (Hold w held) r t = []
commits_by s (Probe w g) r t = []
commits_by s (Assign w g a) r t = []
commits_by s (Park instance u) r t = []
commits_by s (Unpark instance u) r t = []

-- the accepted commits for a task among these entries, in their order
abbrev pub commits_for : Setup → State → List Entry → TaskId → List (ℕ × Pending)
commits_for setup s [] t = []
commits_for setup s (entry ∷ entries) t = commits_by s entry.request (refusal setup s entry.request) t ++ commits_for setup (after setup s entry.request) entries t

-- nothing is committed for the task
abbrev pub NoCommit : Setup → State → List Entry → TaskId → Type 0
NoCommit setup s entries t = commits_for setup s entries t ≡ []

-- one commit is for the task, and it is this one
abbrev pub OneCommit : Setup → State → List Entry → Pending → Type 0
OneCommit setup s entries p = (w : ℕ) × (commits_for setup s entries p.task ≡ (w, p) ∷ [])

-- all are by one worker
abbrev pub AllBy : ℕ → List (ℕ × Pending) → Type 0
AllBy w [] = Unit {0}
AllBy w (c ∷ cs) = (c.0 ≡ w) × AllBy w cs
