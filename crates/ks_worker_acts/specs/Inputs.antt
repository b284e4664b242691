-- The inputs of a worker's tasks, and what a look at some of them moves (Kafka Streams: StreamTask.process, one poll of a thread).
use Rattle.std.specs.Prelude.{◌≡◌, ◌==◌, ◌⊎◌, ◌≤◌, ◌<◌, ◌+◌, ℕ, zero, suc, Bool, true, false, List, [], ◌∷◌, ◌++◌, ◌%◌, length, take, drop, map}
use Rattle.std.specs.List.{All, AllZip}
use Rattle.ks_history.specs.declared.journal.Entry.{Entry}
use Rattle.ks_history.specs.Machine.{part_of, has_topic}
use Rattle.ks_history.specs.State.{Setup}
use Rattle.ks_history.specs.Follows.{TaskView}
use Rattle.ks_history.specs.History.{at}
use Rattle.ks_law_commit.specs.Bounds.{stable_of}
use Rattle.ks_law_commit.specs.Moves.{HasRead}
use Rattle.ks_task.specs.declared.task.Task.{Task}
use Rattle.ks_task.specs.Tasks.{task_view}
use Rattle.ks_worker_acts.specs.declared.places.InputPlace.{InputPlace}

-- ---- the inputs, in order of task and topic
abbrev pub places_at : ℕ → List ℕ → List InputPlace
places_at index topics = map (λ (topic : ℕ). record { index = index; topic = topic }) topics

abbrev pub places_from : (ℕ → List ℕ) → ℕ → List Task → List InputPlace
places_from inputs index [] = []
places_from inputs index (t ∷ ts) = places_at index (inputs (task_view t).task.sub) ++ places_from inputs (index + 1) ts

-- the task at this place of a list is there, and is such a one
abbrev pub AtPlace : (Task → Type 0) → ℕ → List Task → Type 0
AtPlace P index [] = ⊥
AtPlace P zero (t ∷ ts) = P t
AtPlace P (suc index) (t ∷ ts) = AtPlace P index ts

abbrev pub IsInputAt : (ℕ → List ℕ) → List Task → InputPlace → Type 0
IsInputAt inputs tasks p = AtPlace (λ t. has_topic p.topic (inputs (task_view t).task.sub) ≡ true) p.index tasks

-- ---- what a look moves
-- the task's name, its committed offsets and its changelog positions are the same, and no position fell
pub record ReadsOn (old new : TaskView) : Type 0 where
  pub task : new.task ≡ old.task
  pub kept : (u : ℕ) → new.kept u ≡ old.kept u
  pub position : (u : ℕ) → new.position u ≡ old.position u
  pub later : (u : ℕ) → old.inputs u ≤ new.inputs u

-- so of each task
abbrev pub HaveReadOn : List Task → List Task → Type 0
HaveReadOn old new = AllZip (λ a b. ReadsOn (task_view a) (task_view b)) old new

-- an input position of one of the tasks rose
abbrev pub HasMoved : List Task → List Task → Type 0
HasMoved [] news = ⊥
HasMoved (a ∷ olds) [] = ⊥
HasMoved (a ∷ olds) (b ∷ news) = ((topic : ℕ) × ((task_view a).inputs topic < (task_view b).inputs topic)) ⊎ HasMoved olds news

-- nothing stable in the journal `h` is left of this input, or of any input of a task
abbrev pub HasReadTo : Setup → List Entry → ℕ → Task → Type 0
HasReadTo setup h topic t = stable_of (at setup h) (part_of topic (task_view t).task) ≤ (task_view t).inputs topic

abbrev pub HaveReadAll : Setup → List Entry → List Task → Type 0
HaveReadAll setup h tasks =
    All (λ t. (topic : ℕ) → has_topic topic (setup.plan.inputs (task_view t).task.sub) ≡ true → HasReadTo setup h topic t) tasks

-- the task read in this input, where its position rose, and in no other one
pub record HasReadAt (topic : ℕ) (old new : TaskView) : Type 0 where
  pub read : HasRead topic old new
  pub rose : old.inputs topic < new.inputs topic
  pub others : (u : ℕ) → (u == topic) ≡ false → new.inputs u ≡ old.inputs u

-- the task at this place did, and the others are the same
abbrev pub IsMovedAt : ℕ → ℕ → List Task → List Task → Type 0
IsMovedAt topic index [] news = ⊥
IsMovedAt topic index (a ∷ olds) [] = ⊥
IsMovedAt topic zero (a ∷ olds) (b ∷ news) = HasReadAt topic (task_view a) (task_view b) × (news ≡ olds)
IsMovedAt topic (suc index) (a ∷ olds) (b ∷ news) = (b ≡ a) × IsMovedAt topic index olds news

-- of these inputs, in this order, the first moved at which something was left: before it nothing stable in the journal `h` was
abbrev pub MovesFirst : Setup → List Entry → List InputPlace → List Task → List Task → Type 0
MovesFirst setup h [] old new = ⊥
MovesFirst setup h (p ∷ ps) old new = IsMovedAt p.topic p.index old new ⊎ (AtPlace (HasReadTo setup h p.topic) p.index old × MovesFirst setup h ps old new)

-- the inputs from the one that a pick names on, round once
abbrev pub from_pick : ℕ → List InputPlace → List InputPlace
from_pick pick places = drop (pick % length places) places ++ take (pick % length places) places

-- these inputs were looked at since the journal was `h`, in this order: the first moved that could, or all stayed and nothing stable was left
pub record HasLooked (setup : Setup) (h : List Entry) (moved : Bool) (places : List InputPlace) (old new : List Task) : Type 0 where
  pub read : HaveReadOn old new
  pub moves : moved ≡ true → HasMoved old new
  pub first : moved ≡ true → MovesFirst setup h places old new
  pub stays : moved ≡ false → new ≡ old
  pub stops : moved ≡ false → All (λ p. AtPlace (HasReadTo setup h p.topic) p.index old) places
