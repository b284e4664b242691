-- One request that writes: when it is refused, what is answered, and what it leaves. Transactions by KIP-98, generations by
-- KIP-447, held positions and probes by KIP-441.
use Rattle.std.specs.Prelude.{ℕ, zero, suc, ◌+◌, ◌-◌, ◌^◌, ◌==◌, ◌&&◌, ◌||◌, Bool, true, false, not, if◌then◌else◌, min, Option, Some, None, List, [], ◌∷◌, ◌++◌, length}
use Rattle.ks_record.specs.declared.record.PartId.{PartId}
use Rattle.ks_record.specs.declared.record.TaskId.{TaskId}
use Rattle.ks_record.specs.declared.assignment.Marker.{Marker}
use Rattle.ks_record.specs.declared.assignment.Refused.{Refused}
use Rattle.ks_record.specs.declared.assignment.Refused.TheVariants.{OutOfSequence, Fenced, AlreadyDecided, NoTransaction, OldGeneration, NotAssigned, Unstable, MarkersWaiting, BadAssignment}
use Rattle.ks_record.specs.Parts.{same_task, task_lt}
use Rattle.ks_history.specs.declared.partition.Slot.{Slot}
use Rattle.ks_history.specs.declared.partition.Slot.TheVariants.{Plain, Mark}
use Rattle.ks_history.specs.declared.journal.Request.{Request}
use Rattle.ks_history.specs.declared.journal.Request.TheVariants.{Produce, Init, Add, Append, SendOffsets, Decide, MarkNext, Join, Expire, Hold, Probe, Assign, Park, Unpark}
use Rattle.ks_history.specs.declared.journal.Reply.{Reply}
use Rattle.ks_history.specs.declared.journal.Reply.TheVariants.{Done, Number, Truth, Mark as Marked, Refused as Refuse}
use Rattle.ks_history.specs.declared.transaction.Pending.{Pending}
use Rattle.ks_history.specs.declared.transaction.Transaction.{Transaction}
use Rattle.ks_history.specs.declared.transaction.Producer.{Producer}
use Rattle.ks_history.specs.Partition.{count_sent, sent_slots, is_none}
use Rattle.ks_history.specs.State.{State, Setup, with_number, grown, with_parked, insert_part, has_part, has_number, insert_number, without_number, pending_of, with_pending, committed_with, late_in}

-- the first that is there
abbrev pub or_else : {A : Type 0} → Option A → Option A → Option A
or_else (Some x) second = Some x
or_else None second = second

-- ---- the refusals, each over the part of the state that it needs
-- the epoch isn't the producer's
abbrev pub fenced : Producer → ℕ → Option Refused
fenced p e = if e == p.epoch then None else Some (Fenced p.epoch)

-- nothing is undecided, and markers wait
abbrev pub markers_waiting : Producer → Option Refused
markers_waiting p =
    elim p.undecided [ Some tx ↦ None | None ↦ elim p.waiting [ [] ↦ None | m ∷ ms ↦ Some (MarkersWaiting (length (m ∷ ms))) ] ]

-- no undecided transaction has this part
abbrev pub without_part : Producer → PartId → Option Refused
without_part p part =
    elim p.undecided [ None ↦ Some NoTransaction | Some tx ↦ if has_part part tx.parts then None else Some NoTransaction ]

-- the number isn't the count of that producer's and epoch's records
abbrev pub out_of_sequence : List Slot → ℕ → ℕ → ℕ → Option Refused
out_of_sequence slots w e number = if number == count_sent w e slots then None else Some (OutOfSequence (count_sent w e slots))

-- nothing is undecided: one of this epoch was decided, or none was
abbrev pub none_undecided : Producer → Option Refused
none_undecided p =
    elim p.undecided [
      | Some tx ↦ None
      | None ↦ elim p.last [ None ↦ Some NoTransaction | Some commit ↦ Some (AlreadyDecided commit) ]
    ]

-- the generation isn't the group's
abbrev pub old_generation : State → ℕ → Option Refused
old_generation s g = if g == s.generation then None else Some (OldGeneration s.generation)

-- a task stands at a member
abbrev pub is_place : TaskId → List ℕ → TaskId × ℕ → Bool
is_place t members pair = same_task t pair.0 && has_number pair.1 members

-- the member at which a task is active
abbrev pub place_in : TaskId → List ℕ → List (TaskId × ℕ) → Option ℕ
place_in t members [] = None
place_in t members (pair ∷ pairs) = if is_place t members pair then Some pair.1 else place_in t members pairs

abbrev pub owner : State → TaskId → Option ℕ
owner s t = elim s.assignment [ None ↦ None | Some a ↦ place_in t s.members a.active ]

-- the task's active place isn't this worker
abbrev pub not_assigned : State → ℕ → TaskId → Option Refused
not_assigned s w t =
    elim (owner s t) [ None ↦ Some (NotAssigned None) | Some v ↦ if v == w then None else Some (NotAssigned (Some v)) ]

-- the producer's undecided transaction has offsets pending for the task
abbrev pub has_pending : Producer → TaskId → Bool
has_pending p t = elim p.undecided [ None ↦ false | Some tx ↦ not (is_none (pending_of t tx.pending)) ]

-- the least producer of those that count, from the first of the last `left` ones, that has offsets pending for the task
abbrev pub unstable_from : State → TaskId → (ℕ → Bool) → ℕ → ℕ → Option Refused
unstable_from s t counts v zero = None
unstable_from s t counts v (suc left) =
    if counts v && has_pending (s.producer v) t then Some (Unstable v) else unstable_from s t counts (v + 1) left

-- for its own offsets a producer doesn't count itself
abbrev pub unstable_beside : State → ℕ → TaskId → Option Refused
unstable_beside s w t = unstable_from s t (λ v. not (v == w)) 0 17

abbrev pub unstable : State → TaskId → Option Refused
unstable s t = unstable_from s t (λ v. true) 0 17

-- with how many places at a member a task stands in a list
abbrev pub places_of : TaskId → List ℕ → List (TaskId × ℕ) → ℕ
places_of t members [] = 0
places_of t members (pair ∷ pairs) = if is_place t members pair then suc (places_of t members pairs) else places_of t members pairs

abbrev pub lesser : TaskId → Option TaskId → TaskId
lesser t None = t
lesser t (Some u) = if task_lt u t then u else t

-- the first task, in task order, that isn't active at exactly one member
abbrev pub badly_placed : List TaskId → List ℕ → List (TaskId × ℕ) → Option TaskId
badly_placed [] members active = None
badly_placed (t ∷ ts) members active =
    if places_of t members active == 1 then badly_placed ts members active else Some (lesser t (badly_placed ts members active))

abbrev pub bad_assignment : List TaskId → List ℕ → List (TaskId × ℕ) → Option Refused
bad_assignment tasks members active = elim (badly_placed tasks members active) [ None ↦ None | Some t ↦ Some (BadAssignment t) ]

-- why a request is refused: the first of its refusals that fits
abbrev pub refusal : Setup → State → Request → Option Refused
refusal setup s (Produce p rec) = None
refusal setup s (Init w) = None
refusal setup s (Add w e p) = or_else (fenced (s.producer w) e) (markers_waiting (s.producer w))
refusal setup s (Append w e number t p recs) = or_else (fenced (s.producer w) e) (or_else (without_part (s.producer w) p) (out_of_sequence (s.partition p) w e number))
refusal setup s (SendOffsets w e g t offsets order late) =
    or_else (fenced (s.producer w) e) (or_else (old_generation s g) (or_else (not_assigned s w t) (or_else (markers_waiting (s.producer w)) (unstable_beside s w t))))
refusal setup s (Decide w e commit) = or_else (fenced (s.producer w) e) (none_undecided (s.producer w))
refusal setup s (MarkNext w) = None
refusal setup s (Join w) = None
refusal setup s (Expire w) = None
refusal setup s (Hold w held) = None
refusal setup s (Probe w g) = old_generation s g
refusal setup s (Assign w g a) = or_else (old_generation s g) (bad_assignment setup.tasks s.members a.active)
refusal setup s (Park instance t) = None
refusal setup s (Unpark instance t) = None

-- ---- what a request does that isn't refused
abbrev pub is_undecided : Producer → Bool
is_undecided p = elim p.undecided [ None ↦ false | Some tx ↦ true ]

-- a worker that is a member or has something undecided can be removed
abbrev pub can_expire : State → ℕ → Bool
can_expire s w = has_number w s.members || is_undecided (s.producer w)

-- what is answered
abbrev pub answer : State → Request → Reply
answer s (Produce p rec) = Number (length (s.partition p))
answer s (Init w) = Number ((s.producer w).epoch + 1)
answer s (Add w e p) = Done
answer s (Append w e number t p recs) = Number (length (s.partition p))
answer s (SendOffsets w e g t offsets order late) = Done
answer s (Decide w e commit) = Done
answer s (MarkNext w) = elim (s.producer w).waiting [ [] ↦ Marked None | m ∷ ms ↦ Marked (Some (m.part, m.commit)) ]
answer s (Join w) = Number (s.generation + 1)
answer s (Expire w) = Truth (can_expire s w)
answer s (Hold w held) = Done
answer s (Probe w g) = Number (s.generation + 1)
answer s (Assign w g a) = Truth (is_none s.assignment)
answer s (Park instance t) = Done
answer s (Unpark instance t) = Truth (s.parked instance t)

abbrev pub no_tx : Transaction
no_tx = record { parts = []; tasks = []; pending = [] }

-- the producer's transaction, a new one where there is none
abbrev pub tx_of : Producer → Transaction
tx_of p = elim p.undecided [ None ↦ no_tx | Some tx ↦ tx ]

abbrev pub markers_for : ℕ → Bool → List PartId → List Marker
markers_for e commit [] = []
markers_for e commit (p ∷ ps) = record { part = p; epoch = e; commit = commit } ∷ markers_for e commit ps

-- the producer after its transaction, if one is undecided, is decided: a marker waits for each of its parts
abbrev pub closed : Producer → Bool → Producer
closed p commit =
    elim p.undecided [
      | None ↦ p
      | Some tx ↦ record p { undecided = None; waiting = p.waiting ++ markers_for p.epoch commit tx.parts; last = Some commit }
    ]

-- the producer of a new epoch: what was undecided is aborted
abbrev pub renewed : Producer → Producer
renewed p = record (closed p false) { epoch = p.epoch + 1; last = None }

-- what is pending at the producer
abbrev pub pending_at : Producer → List Pending
pending_at p = elim p.undecided [ None ↦ [] | Some tx ↦ tx.pending ]

-- the late total stops at the greatest u64
abbrev pub with_late : ℕ → List Pending → ℕ
with_late late pending = min (late + late_in pending) (2 ^ 64 - 1)

abbrev pub with_producer : State → ℕ → Producer → State
with_producer s w p = record s { producer = with_number s.producer w p }

-- what a request leaves
abbrev pub effect : State → Request → State
effect s (Produce p rec) = record s { partition = grown s.partition p (Plain rec ∷ []) }
effect s (Init w) = with_producer s w (renewed (s.producer w))
effect s (Add w e p) =
    let tx = tx_of (s.producer w) in
    with_producer s w (record (s.producer w) { undecided = Some (record tx { parts = insert_part p tx.parts }) })
effect s (Append w e number t p recs) =
    let tx = tx_of (s.producer w) in
    record s {
      partition = grown s.partition p (sent_slots w e number t recs);
      producer = with_number s.producer w (record (s.producer w) { undecided = Some (record tx { tasks = tx.tasks ++ t ∷ [] }) });
    }
effect s (SendOffsets w e g t offsets order late) =
    let tx = tx_of (s.producer w) in
    let new : Pending = record { task = t; offsets = offsets; order = order; late = late } in
    with_producer s w (record (s.producer w) { undecided = Some (record tx { pending = with_pending new tx.pending }) })
effect s (Decide w e commit) =
    record s {
      producer = with_number s.producer w (closed (s.producer w) commit);
      committed = if commit then committed_with s.committed (pending_at (s.producer w)) else s.committed;
      late = if commit then with_late s.late (pending_at (s.producer w)) else s.late;
    }
effect s (MarkNext w) =
    elim (s.producer w).waiting [
      | [] ↦ s
      | m ∷ ms ↦ record s {
        partition = grown s.partition m.part (Mark w m.epoch m.commit ∷ []);
        producer = with_number s.producer w (record (s.producer w) { waiting = ms });
      }
    ]
effect s (Join w) = record s { members = insert_number w s.members; generation = s.generation + 1; assignment = None }
effect s (Expire w) =
    if can_expire s w
    then record s {
      producer = with_number s.producer w (renewed (s.producer w));
      members = without_number w s.members;
      held = with_number s.held w [];
      generation = s.generation + 1;
      assignment = None;
    }
    else s
effect s (Hold w held) = record s { held = with_number s.held w held }
effect s (Probe w g) = record s { generation = s.generation + 1; assignment = None }
effect s (Assign w g a) = elim s.assignment [ None ↦ record s { assignment = Some a } | Some b ↦ s ]
effect s (Park instance t) = record s { parked = with_parked s.parked instance t true }
effect s (Unpark instance t) = record s { parked = with_parked s.parked instance t false }

-- ---- the step
abbrev pub reply_by : State → Request → Option Refused → Reply
reply_by s request None = answer s request
reply_by s request (Some refused) = Refuse refused

abbrev pub state_by : State → Request → Option Refused → State
state_by s request None = effect s request
state_by s request (Some refused) = s

-- the reply to a request, and the state after it
abbrev pub reply_to : Setup → State → Request → Reply
reply_to setup s request = reply_by s request (refusal setup s request)

abbrev pub after : Setup → State → Request → State
after setup s request = state_by s request (refusal setup s request)
