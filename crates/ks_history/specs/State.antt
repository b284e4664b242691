-- What a cluster knows at one moment.
use Rattle.std.specs.Prelude.{◌≡◌, ℕ, ◌+◌, ◌==◌, ◌<◌, ◌≤◌, ◌&&◌, ◌||◌, Bool, true, false, if◌then◌else◌, nat_lt, Option, Some, None, List, [], ◌∷◌, ◌++◌, length, slice_index}
use Rattle.ks_record.specs.declared.record.PartId.{PartId}
use Rattle.ks_record.specs.declared.record.TaskId.{TaskId}
use Rattle.ks_record.specs.declared.assignment.Assignment.{Assignment}
use Rattle.ks_record.specs.Parts.{same_part, same_task, part_lt, task_lt}
use Rattle.ks_history.specs.declared.partition.Slot.{Slot}
use Rattle.ks_history.specs.declared.transaction.Pending.{Pending}
use Rattle.ks_history.specs.declared.transaction.Producer.{Producer}
use Rattle.ks_history.specs.Machine.{TaskPlan, part_of, has_topic}

pub record State : Type 0 where
  pub partition : PartId → List Slot
  -- for each producer its epoch, its undecided transaction, how the last one of its epoch was decided, its waiting markers
  pub producer : ℕ → Producer
  -- the group (KIP-447): its generation, its members, rising, and where the tasks stand
  pub generation : ℕ
  pub members : List ℕ
  pub assignment : Option Assignment
  -- the positions that a worker holds, by task
  pub held : ℕ → List (TaskId × ℕ)
  -- by task and input topic
  pub committed : TaskId → ℕ → ℕ
  -- how many late pairs of record and window were committed
  pub late : ℕ
  -- the pairs of instance and task that are parked
  pub parked : ℕ → TaskId → Bool

-- what a cluster is made with
pub record Setup : Type 0 where
  pub plan : TaskPlan
  -- the number of partitions of each topic
  pub counts : List ℕ
  pub tasks : List TaskId

abbrev pub new_producer : Producer
new_producer = record { epoch = 0; undecided = None; last = None; waiting = [] }

abbrev pub start : State
start = record {
  partition = λ _. [];
  producer = λ _. new_producer;
  generation = 0;
  members = [];
  assignment = None;
  held = λ _. [];
  committed = λ _ _. 0;
  late = 0;
  parked = λ _ _. false;
}

-- ---- changes at one place
-- the function with another value at one number
abbrev pub with_number : {A : Type 0} → (ℕ → A) → ℕ → A → ℕ → A
with_number f k x j = if j == k then x else f j

-- with more slots at the end of one partition
abbrev pub grown : (PartId → List Slot) → PartId → List Slot → PartId → List Slot
grown partition p more q = if same_part q p then partition q ++ more else partition q

-- with another value at one pair of instance and task
abbrev pub with_parked : (ℕ → TaskId → Bool) → ℕ → TaskId → Bool → ℕ → TaskId → Bool
with_parked parked instance t is i u = if (i == instance) && same_task u t then is else parked i u

-- ---- lists in order
abbrev pub insert_part : PartId → List PartId → List PartId
insert_part p [] = p ∷ []
insert_part p (q ∷ qs) = if same_part p q then q ∷ qs else if part_lt p q then p ∷ q ∷ qs else q ∷ insert_part p qs

abbrev pub has_part : PartId → List PartId → Bool
has_part p [] = false
has_part p (q ∷ qs) = same_part p q || has_part p qs

abbrev pub has_task : TaskId → List TaskId → Bool
has_task t [] = false
has_task t (u ∷ us) = same_task t u || has_task t us

abbrev pub has_number : ℕ → List ℕ → Bool
has_number n [] = false
has_number n (m ∷ ms) = (n == m) || has_number n ms

abbrev pub insert_number : ℕ → List ℕ → List ℕ
insert_number n [] = n ∷ []
insert_number n (m ∷ ms) = if n == m then m ∷ ms else if nat_lt n m then n ∷ m ∷ ms else m ∷ insert_number n ms

abbrev pub without_number : ℕ → List ℕ → List ℕ
without_number n [] = []
without_number n (m ∷ ms) = if n == m then without_number n ms else m ∷ without_number n ms

-- ---- pending offsets
abbrev pub pending_of : TaskId → List Pending → Option Pending
pending_of t [] = None
pending_of t (p ∷ ps) = if same_task t p.task then Some p else pending_of t ps

-- in place of earlier ones of this task, in order of tasks
abbrev pub with_pending : Pending → List Pending → List Pending
with_pending new [] = new ∷ []
with_pending new (p ∷ ps) = if same_task new.task p.task then new ∷ ps else if task_lt new.task p.task then new ∷ p ∷ ps else p ∷ with_pending new ps

-- the offset that is named for a topic, else the old one
abbrev pub offset_in : ℕ → ℕ → List (ℕ × ℕ) → ℕ
offset_in old topic [] = old
offset_in old topic (pair ∷ pairs) = if topic == pair.0 then pair.1 else offset_in old topic pairs

-- the committed offsets after these are committed
abbrev pub committed_with : (TaskId → ℕ → ℕ) → List Pending → TaskId → ℕ → ℕ
committed_with committed pending t topic =
    elim (pending_of t pending) [ None ↦ committed t topic | Some p ↦ offset_in (committed t topic) topic p.offsets ]

abbrev pub late_in : List Pending → ℕ
late_in [] = 0
late_in (p ∷ ps) = p.late + late_in ps

-- ---- what a cluster has
-- the partition is one of the cluster
pub record IsPart (setup : Setup) (p : PartId) : Type 0 where
  pub topic : p.topic < length setup.counts
  pub part : p.part < slice_index setup.counts p.topic

abbrev pub are_once : List TaskId → Bool
are_once [] = true
are_once (t ∷ ts) = if has_task t ts then false else are_once ts

-- what a cluster must be made with
pub record IsSetup (setup : Setup) : Type 0 where
  pub once : are_once setup.tasks ≡ true
  pub sources : setup.plan.sources ≤ length setup.counts
  pub inputs : (t : TaskId) (topic : ℕ) → has_task t setup.tasks ≡ true → has_topic topic (setup.plan.inputs t.sub) ≡ true → IsPart setup (part_of topic t)
  pub changelogs : (t : TaskId) (topic : ℕ) → has_task t setup.tasks ≡ true → has_topic topic (setup.plan.changelogs t.sub) ≡ true → IsPart setup (part_of topic t)
