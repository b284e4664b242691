-- Faithful transactions: what a commit publishes is exactly what its tasks make of the records that it consumes, from the
-- stores that are committed (exactly once: KIP-98 and KIP-447).
use Rattle.std.specs.Prelude.{◌≡◌, ℕ, ◌+◌, ◌==◌, ◌≤◌, ◌&&◌, Bool, true, if◌then◌else◌, min, ◌^◌, ◌-◌, Option, Some, None, List, [], ◌∷◌, length, map, cond}
use Rattle.std.specs.List.Sorted.{IsPermutation}
use Rattle.ks_def_runs.specs.Bytes.{Store, empty_store}
use Rattle.ks_record.specs.Records.{Record as Rec}
use Rattle.ks_record.specs.declared.record.PartId.{PartId}
use Rattle.ks_record.specs.declared.record.TaskId.{TaskId}
use Rattle.ks_record.specs.declared.assignment.Marker.{Marker}
use Rattle.ks_record.specs.Parts.{same_part}
use Rattle.ks_def_runs.specs.Run.{Outcome, sent_to}
use Rattle.ks_history.specs.declared.transaction.Pending.{Pending}
use Rattle.ks_history.specs.declared.transaction.Transaction.{Transaction}
use Rattle.ks_history.specs.Partition.{Logged, stable, readable, decided_from, open_from, is_behind, recs, past_from, below}
use Rattle.ks_history.specs.Machine.{Stores, latest, network, machine, part_of, has_topic}
use Rattle.ks_history.specs.State.{State, Setup, has_task, pending_of, offset_in}

-- how the waiting marker of this part and epoch decides
abbrev pub marker_among : PartId → ℕ → List Marker → Option Bool
marker_among p e [] = None
marker_among p e (m ∷ ms) = if same_part p m.part && (e == m.epoch) then Some m.commit else marker_among p e ms

abbrev pub waiting_at : (ℕ → List Marker) → PartId → ℕ → ℕ → Option Bool
waiting_at markers p w e = marker_among p e (markers w)

abbrev pub markers_of : State → ℕ → List Marker
markers_of s w = (s.producer w).waiting

-- the decided records of a partition, with their offsets and senders
abbrev pub decided : State → PartId → List Logged
decided s p = decided_from (waiting_at (markers_of s) p) 0 (s.partition p)

-- the fold of a changelog's partition
abbrev pub fold : State → PartId → Store
fold s p = latest (recs (decided s p))

-- the folds of a task's changelogs; a task has no other store
abbrev pub folds : Setup → State → TaskId → Stores
folds setup s t topic = cond (has_topic topic (setup.plan.changelogs t.sub)) (fold s (part_of topic t)) empty_store

-- the readable records of each input of a task, from the committed offset up to another
abbrev pub taken : Setup → State → TaskId → (ℕ → ℕ) → ℕ → List Logged
taken setup s t upto topic =
    cond (has_topic topic (setup.plan.inputs t.sub))
    (past_from (s.committed t topic) (below (upto topic) (readable (s.partition (part_of topic t)))))
    []

-- how many records of a topic an order names
abbrev pub count_in : ℕ → List (ℕ × ℕ) → ℕ
count_in topic [] = 0
count_in topic (run ∷ runs) = if topic == run.0 then run.1 + count_in topic runs else count_in topic runs

-- what a task makes, from the folds of its changelogs, of its inputs up to these offsets, in an order
abbrev pub outcome : Setup → State → TaskId → (ℕ → ℕ) → List (ℕ × ℕ) → Outcome PartId Stores Rec
outcome setup s t upto order = machine setup.plan t (folds setup s t) (taken setup s t upto) order

-- a late count that has reached the greatest u64 stays there
abbrev pub capped : ℕ → ℕ
capped late = min late (2 ^ 64 - 1)

-- the pending offset of each input, by topic
abbrev pub pending_offsets : State → Pending → ℕ → ℕ
pending_offsets s p topic = offset_in (s.committed p.task topic) topic p.offsets

-- the part of one task, by its pending offsets, in the undecided transaction of a producer
pub record IsFaithfulTask (setup : Setup) (s : State) (w : ℕ) (p : Pending) : Type 0 where
  -- the pending offsets name each input once, each between the committed and the stable one, both included
  pub inputs : IsPermutation (setup.plan.inputs p.task.sub) (map (λ o. o.0) p.offsets)
  pub committed : (topic : ℕ) → s.committed p.task topic ≤ pending_offsets s p topic
  pub stable : (topic : ℕ) → has_topic topic (setup.plan.inputs p.task.sub) ≡ true → pending_offsets s p topic ≤ stable (s.partition (part_of topic p.task))
  -- the order names each record that is taken once
  pub order : (topic : ℕ) → count_in topic p.order ≡ length (taken setup s p.task (pending_offsets s p) topic)
  -- what the transaction appended for the task is exactly what the task makes
  pub made : (q : PartId) → sent_to (network setup.plan) q (outcome setup s p.task (pending_offsets s p) p.order).made ≡ recs (open_from w (s.producer w).epoch p.task 0 (s.partition q))
  pub late : capped (outcome setup s p.task (pending_offsets s p) p.order).late ≡ p.late
  -- in each partition the transaction's records of the task stand after every decided record of the task
  pub behind : (q : PartId) → is_behind (waiting_at (markers_of s) q) w (s.producer w).epoch p.task (s.partition q) ≡ true

pub record IsFaithful (setup : Setup) (s : State) (w : ℕ) (tx : Transaction) : Type 0 where
  -- each task that an append named has pending offsets
  pub named : (t : TaskId) → has_task t tx.tasks ≡ true → (p : Pending) × (pending_of t tx.pending ≡ Some p)
  pub each : (t : TaskId) (p : Pending) → pending_of t tx.pending ≡ Some p → IsFaithfulTask setup s w p
