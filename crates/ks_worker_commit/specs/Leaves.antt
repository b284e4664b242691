-- What a commit leaves of its worker's producer (KIP-98) and of its tasks (KIP-447).
use Rattle.std.specs.Prelude.{◌≡◌, ◌⊎◌, ◌&&◌, ◌==◌, if◌then◌else◌, ℕ, true, false, List, [], ◌∷◌, ◌++◌}
use Rattle.ks_record.specs.declared.record.PartId.{PartId}
use Rattle.ks_record.specs.declared.record.TaskId.{TaskId}
use Rattle.ks_record.specs.Parts.{same_task}
use Rattle.ks_history.specs.declared.journal.Entry.{Entry}
use Rattle.ks_history.specs.Machine.{has_topic}
use Rattle.ks_history.specs.State.{Setup, has_task, offset_in}
use Rattle.ks_history.specs.Follows.{TaskView}
use Rattle.ks_history.specs.History.{at}
use Rattle.ks_law_restore.specs.Views.{WorkView, IsFrozen, committed_view}
use Rattle.ks_law_commit.specs.Held.{IsHeld}
use Rattle.ks_commit.specs.Committed.{tasks_in}
use Rattle.ks_worker_client.specs.declared.member.Member.{Member}
use Rattle.ks_worker_client.specs.Members.{MemberHasSeen, IsProducer}
use Rattle.ks_worker_commit.specs.declared.outcome.Outcome.{Outcome}
use Rattle.ks_worker_commit.specs.declared.outcome.Outcome.TheVariants.{Committed, Aborted, Fenced, Touched, Cut}

-- it is one of these works
abbrev pub IsOneOf : WorkView → List WorkView → Type 0
IsOneOf f [] = ⊥
IsOneOf f (x ∷ xs) = (f ≡ x) ⊎ IsOneOf f xs

-- the ends in a task's own partitions, by topic, a later one before an earlier one
abbrev pub ends_for : TaskId → List (TaskId × PartId × ℕ) → List (ℕ × ℕ)
ends_for t [] = []
ends_for t (x ∷ xs) = ends_for t xs ++ (if same_task t x.0 && x.1.part == t.part then (x.1.topic, x.2) ∷ [] else [])

-- both tell the same of the task's changelogs
abbrev pub TellTheSame : Setup → TaskId → List (ℕ × ℕ) → List (ℕ × ℕ) → Type 0
TellTheSame setup t ends others = (topic old : ℕ) → has_topic topic (setup.plan.changelogs t.sub) ≡ true → offset_in old topic ends ≡ offset_in old topic others

-- a task with none of these works is held as before
abbrev pub RestsAreHeld : Setup → List Entry → List Entry → Member → ℕ → ℕ → List WorkView → Type 0
RestsAreHeld setup old new m last next fs = (v : TaskView) → has_task v.task (tasks_in fs) ≡ false →
    IsHeld setup old m.number m.generation last v → IsHeld setup new m.number m.generation next v

-- a task with one of them is held as it is after the commit
abbrev pub WorkedAreHeld : Setup → List Entry → List Entry → Member → ℕ → ℕ → List WorkView → List (TaskId × PartId × ℕ) → Type 0
WorkedAreHeld setup old new m last next fs ends = (v : TaskView) (f : WorkView) (own : List (ℕ × ℕ)) → IsOneOf f fs → IsFrozen setup.plan v f →
    TellTheSame setup v.task own (ends_for v.task ends) →
    IsHeld setup old m.number m.generation last v → IsHeld setup new m.number m.generation next (committed_view v own)

abbrev pub LeavesTasks : Setup → List Entry → List Entry → Member → ℕ → ℕ → List WorkView → List (TaskId × PartId × ℕ) → Outcome → Type 0
LeavesTasks setup old new m last next fs ends Committed = WorkedAreHeld setup old new m last next fs ends × RestsAreHeld setup old new m last next fs
LeavesTasks setup old new m last next fs ends Aborted = RestsAreHeld setup old new m last next fs
LeavesTasks setup old new m last next fs ends Fenced = Unit {0}
LeavesTasks setup old new m last next fs ends Touched = Unit {0}
LeavesTasks setup old new m last next fs ends Cut = Unit {0}

abbrev pub KnowsProducer : Setup → List Entry → Member → ℕ → List (PartId × ℕ) → Type 0
KnowsProducer setup journal m last numbers = MemberHasSeen setup journal m last × IsProducer setup journal m last numbers

abbrev pub LeavesProducer : Setup → List Entry → Member → ℕ → List (PartId × ℕ) → Outcome → Type 0
LeavesProducer setup journal m last numbers Committed = KnowsProducer setup journal m last numbers
LeavesProducer setup journal m last numbers Aborted = KnowsProducer setup journal m last numbers
LeavesProducer setup journal m last numbers Fenced = Unit {0}
LeavesProducer setup journal m last numbers Touched = Unit {0}
LeavesProducer setup journal m last numbers Cut = Unit {0}

-- no marker of the worker's number waits
abbrev pub HasNoMarker : Setup → List Entry → ℕ → Type 0
HasNoMarker setup journal w = ((at setup journal).producer w).waiting ≡ []

abbrev pub LeavesNoMarker : Setup → List Entry → ℕ → Outcome → Type 0
LeavesNoMarker setup journal w Committed = HasNoMarker setup journal w
LeavesNoMarker setup journal w Aborted = HasNoMarker setup journal w
LeavesNoMarker setup journal w Fenced = Unit {0}
LeavesNoMarker setup journal w Touched = Unit {0}
LeavesNoMarker setup journal w Cut = Unit {0}
