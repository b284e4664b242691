-- A task at work, as data: what taking a record, passing over what is not readable, and a commit make of it; the work that it
-- hands to a transaction (KIP-447: the offsets are committed with what was made of them).
use Rattle.std.specs.Prelude.{◌≡◌, ◌≢◌, ℕ, ◌+◌, ◌==◌, ◌≤◌, ◌&&◌, Bool, true, false, not, if◌then◌else◌, List, [], ◌∷◌, ◌++◌, length, map}
use Rattle.std.specs.List.Sorted.{IsPermutation}
use Rattle.ks_def_runs.specs.Bytes.{empty_store}
use Rattle.ks_record.specs.Records.{Record as Rec}
use Rattle.ks_record.specs.declared.record.PartId.{PartId}
use Rattle.ks_record.specs.declared.record.TaskId.{TaskId}
use Rattle.ks_record.specs.Parts.{same_part}
use Rattle.ks_def_runs.specs.Run.{sent_to}
use Rattle.ks_history.specs.declared.journal.Entry.{Entry}
use Rattle.ks_history.specs.declared.transaction.Pending.{Pending}
use Rattle.ks_history.specs.Partition.{stable, readable, past_from, below, with_offsets}
use Rattle.ks_history.specs.Machine.{TaskPlan, Stores, network, part_of, has_topic}
use Rattle.ks_history.specs.State.{State, Setup, IsPart, with_number, has_task, offset_in}
use Rattle.ks_history.specs.Faithful.{decided, taken, count_in, outcome, capped, pending_offsets}
use Rattle.ks_history.specs.Follows.{TaskView, TaskFollows, IsReached}
use Rattle.ks_history.specs.History.{are_offsets}

-- ---- views
-- a task that has taken nothing
abbrev pub fresh_view : TaskId → TaskView
fresh_view t = record {
  task = t;
  kept = λ topic. 0;
  inputs = λ topic. 0;
  order = [];
  position = λ topic. 0;
  stores = λ topic. empty_store;
  made = λ q. [];
  late = 0;
}

-- an order with one more record of a topic: its last run grows, if it is of this topic; else a run of one begins
abbrev pub with_taken : ℕ → List (ℕ × ℕ) → List (ℕ × ℕ)
with_taken topic [] = (topic, 1) ∷ []
with_taken topic (run ∷ []) = if topic == run.0 then (run.0, run.1 + 1) ∷ [] else run ∷ (topic, 1) ∷ []
with_taken topic (run ∷ next ∷ runs) = run ∷ with_taken topic (next ∷ runs)

-- after one more record of an input, which stands at this offset
abbrev pub take_view : TaskPlan → TaskView → ℕ → ℕ → Rec → TaskView
take_view plan v topic offset rec =
    let o = plan.step v.task v.stores (part_of topic v.task) rec in
    record v {
      inputs = with_number v.inputs topic (offset + 1);
      order = with_taken topic v.order;
      stores = o.store;
      made = λ q. v.made q ++ sent_to (network plan) q o.made;
      late = capped (v.late + o.late);
    }

-- after some records of an input, with their offsets
abbrev pub take_all : TaskPlan → TaskView → ℕ → List (ℕ × Rec) → TaskView
take_all plan v topic [] = v
take_all plan v topic (r ∷ rs) = take_all plan (take_view plan v topic r.0 r.1) topic rs

-- after it has passed over what is not readable of an input
abbrev pub skip_view : TaskView → ℕ → ℕ → TaskView
skip_view v topic next = record v { inputs = with_number v.inputs topic next }

-- after its work was committed: the named offsets are its positions in those changelogs
abbrev pub committed_view : TaskView → List (ℕ × ℕ) → TaskView
committed_view v ends = record v {
  kept = v.inputs;
  order = [];
  position = λ topic. offset_in (v.position topic) topic ends;
  made = λ q. [];
  late = 0;
}

-- a task has no store but those of its changelogs
abbrev pub IsNeat : TaskPlan → TaskView → Type 0
IsNeat plan v = (topic : ℕ) → has_topic topic (plan.changelogs v.task.sub) ≡ false → v.stores topic ≡ empty_store

-- the task follows the journal, and has no store but those of its changelogs
abbrev pub Stands : Setup → List Entry → TaskView → Type 0
Stands setup journal v = TaskFollows setup journal v × IsNeat setup.plan v

-- ---- what may be taken, and what may be passed over
-- the first readable record of an input at or past the task's position
pub record IsNext (setup : Setup) (s : State) (v : TaskView) (topic offset : ℕ) (rec : Rec) : Type 0 where
  pub input : has_topic topic (setup.plan.inputs v.task.sub) ≡ true
  pub rest : List (ℕ × Rec)
  pub first : with_offsets (past_from (v.inputs topic) (readable (s.partition (part_of topic v.task)))) ≡ (offset, rec) ∷ rest

-- nothing readable stands between the task's position in an input and a later offset, which is at most the stable one
pub record MaySkip (setup : Setup) (s : State) (v : TaskView) (topic next : ℕ) : Type 0 where
  pub input : has_topic topic (setup.plan.inputs v.task.sub) ≡ true
  pub later : v.inputs topic ≤ next
  pub stable : next ≤ stable (s.partition (part_of topic v.task))
  pub nothing : below next (past_from (v.inputs topic) (readable (s.partition (part_of topic v.task)))) ≡ []

-- ---- work
-- what a task hands to a transaction: outputs and changelog records by partition, the offsets of its inputs, the order in which it
-- took their records, and how many were late
pub record WorkView : Type 0 where
  pub task : TaskId
  pub outputs : List (PartId × List Rec)
  pub offsets : List (ℕ × ℕ)
  pub order : List (ℕ × ℕ)
  pub late : ℕ

-- the records for a partition
abbrev pub recs_at : PartId → List (PartId × List Rec) → List Rec
recs_at q [] = []
recs_at q (out ∷ outs) = if same_part q out.0 then out.1 ++ recs_at q outs else recs_at q outs

abbrev pub names_part : PartId → List (PartId × List Rec) → Bool
names_part q [] = false
names_part q (out ∷ outs) = if same_part q out.0 then true else names_part q outs

abbrev pub is_empty : List Rec → Bool
is_empty [] = true
is_empty (rec ∷ recs) = false

-- no partition twice, and none without records
abbrev pub are_outputs : List (PartId × List Rec) → Bool
are_outputs [] = true
are_outputs (out ∷ outs) = if names_part out.0 outs then false else not (is_empty out.1) && are_outputs outs

-- the work, as it is pending
abbrev pub pending_work : WorkView → Pending
pending_work f = record { task = f.task; offsets = f.offsets; order = f.order; late = f.late }

-- the work of a task since its last commit
pub record IsFrozen (plan : TaskPlan) (v : TaskView) (f : WorkView) : Type 0 where
  pub task : f.task ≡ v.task
  pub offsets : f.offsets ≡ map (λ topic. (topic, v.inputs topic)) (plan.inputs v.task.sub)
  pub order : f.order ≡ v.order
  pub late : f.late ≡ v.late
  pub outputs : (q : PartId) → recs_at q f.outputs ≡ v.made q
  pub once : are_outputs f.outputs ≡ true

-- what a transaction needs of a task's work to commit it: the request is one of the cluster, and what the work holds is what the task
-- makes, in this state, of its inputs up to these offsets
pub record IsWork (setup : Setup) (s : State) (f : WorkView) : Type 0 where
  pub task : has_task f.task setup.tasks ≡ true
  pub offsets : are_offsets setup s f.task f.offsets ≡ true
  pub inputs : IsPermutation (setup.plan.inputs f.task.sub) (map (λ o. o.0) f.offsets)
  pub committed : (topic : ℕ) → s.committed f.task topic ≤ pending_offsets s (pending_work f) topic
  pub stable : (topic : ℕ) → has_topic topic (setup.plan.inputs f.task.sub) ≡ true → pending_offsets s (pending_work f) topic ≤ stable (s.partition (part_of topic f.task))
  pub order : (topic : ℕ) → count_in topic f.order ≡ length (taken setup s f.task (pending_offsets s (pending_work f)) topic)
  pub made : (q : PartId) → sent_to (network setup.plan) q (outcome setup s f.task (pending_offsets s (pending_work f)) f.order).made ≡ recs_at q f.outputs
  pub late : capped (outcome setup s f.task (pending_offsets s (pending_work f)) f.order).late ≡ f.late
  pub once : are_outputs f.outputs ≡ true

-- no input stands twice in a list
abbrev pub are_topics_once : List ℕ → Bool
are_topics_once [] = true
are_topics_once (topic ∷ topics) = if has_topic topic topics then false else are_topics_once topics

-- what the cluster's tasks make of records of their inputs goes to partitions of the cluster
abbrev pub SendsInside : Setup → Type 0
SendsInside setup = (t : TaskId) (stores : Stores) (topic : ℕ) (rec : Rec) (q : PartId) → has_task t setup.tasks ≡ true → has_topic topic (setup.plan.inputs t.sub) ≡ true →
    sent_to (network setup.plan) q (setup.plan.step t stores (part_of topic t) rec).made ≢ [] → IsPart setup q

-- ---- the ends past committed work
-- every decided record of a partition stands before the position, and the position is reached
pub record IsPast (s : State) (p : PartId) (position : ℕ) : Type 0 where
  pub past : below position (decided s p) ≡ decided s p
  pub reached : IsReached s p position

-- these offsets are the ends of the changelogs in which the work has records, and of no others of the task
pub record AreEnds (setup : Setup) (s : State) (f : WorkView) (ends : List (ℕ × ℕ)) : Type 0 where
  pub named : (topic old : ℕ) → has_topic topic (setup.plan.changelogs f.task.sub) ≡ true → recs_at (part_of topic f.task) f.outputs ≢ [] → IsPast s (part_of topic f.task) (offset_in old topic ends)
  pub others : (topic old : ℕ) → has_topic topic (setup.plan.changelogs f.task.sub) ≡ true → recs_at (part_of topic f.task) f.outputs ≡ [] → offset_in old topic ends ≡ old
