-- What keeps a task that has no work of its own at the cluster's state, entry by entry.
use Rattle.std.specs.Prelude.{◌≡◌, ◌≢◌, ◌⊎◌, ℕ, ◌<◌, ◌≤◌, Bool, nat_le, true, false, Some, None, List, [], ◌∷◌, ◌++◌}
use Rattle.ks_record.specs.declared.record.PartId.{PartId}
use Rattle.ks_record.specs.declared.record.TaskId.{TaskId}
use Rattle.ks_history.specs.declared.journal.Request.TheVariants.{Decide}
use Rattle.ks_history.specs.declared.journal.Reply.TheVariants.{Done}
use Rattle.ks_history.specs.declared.journal.Entry.{Entry}
use Rattle.ks_history.specs.declared.transaction.Pending.{Pending}
use Rattle.ks_history.specs.declared.transaction.Transaction.{Transaction}
use Rattle.ks_history.specs.Machine.{IsNetwork, part_of, has_topic}
use Rattle.ks_history.specs.State.{State, Setup, start, pending_of}
use Rattle.ks_history.specs.Step.{refusal, pending_at}
use Rattle.ks_history.specs.Partition.{Logged, readable, past_from, below, by_sender, with_offsets, past_last, open_from, is_behind}
use Rattle.ks_history.specs.Faithful.{pending_offsets, IsFaithfulTask, decided, waiting_at, markers_of}
use Rattle.ks_history.specs.Follows.{TaskView}
use Rattle.ks_history.specs.History.{at, IsHistory}
use Rattle.ks_law_restore.specs.Commits.{NoCommit}
use Rattle.ks_law_restore.specs.Views.{Stands, fresh_view, committed_view}
use Rattle.ks_law_audit.specs.Rested.{IsRested, HasTaken, placed, run_onto, merged_onto, merged}

-- in the empty cluster
abbrev pub RestedStarts : Type 0
RestedStarts = (setup : Setup) (t : TaskId) → IsRested setup start (fresh_view t)

-- an entry that commits nothing for it
abbrev pub RestedStays : Type 0
RestedStays = (setup : Setup) (journal : List Entry) (entry : Entry) (v : TaskView) → IsNetwork setup.plan → IsHistory setup (journal ++ entry ∷ []) →
    NoCommit setup (at setup journal) (entry ∷ []) v.task → IsRested setup (at setup journal) v → IsRested setup (at setup (journal ++ entry ∷ [])) v

-- it follows the journal, as a task may that begins to take
abbrev pub RestedStands : Type 0
RestedStands = (setup : Setup) (journal : List Entry) (v : TaskView) → IsNetwork setup.plan → IsHistory setup journal →
    IsRested setup (at setup journal) v → Stands setup journal (placed (at setup journal) v)

-- a task that follows, stands at the pending offsets, and took its records in the pending order, run by run
abbrev pub MergedIsTaken : Type 0
MergedIsTaken = (setup : Setup) (journal : List Entry) (p : Pending) (v : TaskView) → IsNetwork setup.plan → Stands setup journal v → v.task ≡ p.task →
    ((topic : ℕ) → has_topic topic (setup.plan.inputs p.task.sub) ≡ true → v.inputs topic ≡ pending_offsets (at setup journal) p topic) →
    v.order ≡ merged p.order → HasTaken setup (at setup journal) p v

abbrev pub commit_of : ℕ → ℕ → Entry
commit_of w e = record { request = Decide w e true; reply = Done }

-- once what it took is committed
abbrev pub TakenRests : Type 0
TakenRests = (setup : Setup) (journal : List Entry) (w e : ℕ) (p : Pending) (v : TaskView) → IsNetwork setup.plan → IsHistory setup (journal ++ commit_of w e ∷ []) →
    refusal setup (at setup journal) (Decide w e true) ≡ None → pending_of p.task (pending_at ((at setup journal).producer w)) ≡ Some p →
    HasTaken setup (at setup journal) p v → IsRested setup (at setup (journal ++ commit_of w e ∷ [])) (committed_view v [])

-- ---- why a commit isn't faithful, where a task that takes its records in the pending order fails
-- what is readable of an input from where a task stands
abbrev pub ahead : State → TaskView → ℕ → List Logged
ahead s v topic = past_from (v.inputs topic) (readable (s.partition (part_of topic v.task)))

-- the order asks for more of a topic that is no input, or of which nothing is left below the pending offset
abbrev pub OrderFails : Type 0
OrderFails = (setup : Setup) (journal : List Entry) (w : ℕ) (p : Pending) (v : TaskView) (topic left : ℕ) (rest : List (ℕ × ℕ)) → IsNetwork setup.plan →
    Stands setup journal v → v.task ≡ p.task → 0 < left → merged_onto (run_onto topic left v.order) rest ≡ merged p.order →
    (has_topic topic (setup.plan.inputs p.task.sub) ≡ false)
    ⊎ ((v.inputs topic ≤ pending_offsets (at setup journal) p topic) × (below (pending_offsets (at setup journal) p topic) (ahead (at setup journal) v topic) ≡ [])) →
    IsFaithfulTask setup (at setup journal) w p → ⊥

-- all that the order asks for was taken, and something is left below the pending offset of an input
abbrev pub RestFails : Type 0
RestFails = (setup : Setup) (journal : List Entry) (w : ℕ) (p : Pending) (v : TaskView) (topic : ℕ) → IsNetwork setup.plan →
    Stands setup journal v → v.task ≡ p.task → v.order ≡ merged p.order → has_topic topic (setup.plan.inputs p.task.sub) ≡ true →
    v.inputs topic ≤ pending_offsets (at setup journal) p topic → below (pending_offsets (at setup journal) p topic) (ahead (at setup journal) v topic) ≢ [] →
    IsFaithfulTask setup (at setup journal) w p → ⊥

-- ---- behind
-- the first of some records stands at or past an offset, if there is one
abbrev pub is_past : ℕ → List Logged → Bool
is_past n [] = true
is_past n (x ∷ xs) = nat_le n x.offset

-- one past the last decided record of a task in a partition
abbrev pub last_end : State → TaskId → PartId → ℕ
last_end s t q = past_last (with_offsets (by_sender (Some t) (decided s q)))

-- of an undecided transaction: its records of a task stand behind every decided one exactly where the first of them does
abbrev pub BehindIsTold : Type 0
BehindIsTold = (setup : Setup) (journal : List Entry) (w : ℕ) (tx : Transaction) (t : TaskId) (q : PartId) → IsNetwork setup.plan → IsHistory setup journal →
    ((at setup journal).producer w).undecided ≡ Some tx →
    is_behind (waiting_at (markers_of (at setup journal)) q) w ((at setup journal).producer w).epoch t ((at setup journal).partition q)
    ≡ is_past (last_end (at setup journal) t q) (open_from w ((at setup journal).producer w).epoch t 0 ((at setup journal).partition q))

-- only a commit for the task moves that end: then to one past the last of its records, if it has some
abbrev pub EndStays : Type 0
EndStays = (setup : Setup) (journal : List Entry) (entry : Entry) (t : TaskId) (q : PartId) → IsNetwork setup.plan → IsHistory setup (journal ++ entry ∷ []) →
    NoCommit setup (at setup journal) (entry ∷ []) t → last_end (at setup (journal ++ entry ∷ [])) t q ≡ last_end (at setup journal) t q

-- one past the last of some records, if there is one, else another end
abbrev pub past_or : ℕ → List Logged → ℕ
past_or n [] = n
past_or n (x ∷ xs) = past_last (with_offsets (x ∷ xs))

-- a commit moves it to one past the last of the transaction's records of the task, if it has some there
abbrev pub EndMoves : Type 0
EndMoves = (setup : Setup) (journal : List Entry) (w e : ℕ) (t : TaskId) (q : PartId) → IsNetwork setup.plan → IsHistory setup (journal ++ commit_of w e ∷ []) →
    refusal setup (at setup journal) (Decide w e true) ≡ None →
    last_end (at setup (journal ++ commit_of w e ∷ [])) t q
    ≡ past_or (last_end (at setup journal) t q) (open_from w ((at setup journal).producer w).epoch t 0 ((at setup journal).partition q))
