-- The works of a worker's tasks (Kafka Streams: a StreamTask that needs a commit).
use Rattle.std.specs.Prelude.{◌≡◌, ◌⊎◌, List, [], ◌∷◌}
use Rattle.ks_history.specs.Machine.{TaskPlan}
use Rattle.ks_law_restore.specs.Views.{WorkView, IsFrozen}
use Rattle.ks_task.specs.declared.task.Task.{Task}
use Rattle.ks_task.specs.Tasks.{task_view, IsClean}

-- a task that took nothing since its last commit, nor passed over anything; and one that did
abbrev pub IsCleanTask : Task → Type 0
IsCleanTask t = IsClean (task_view t)

abbrev pub IsDirtyTask : Task → Type 0
IsDirtyTask t = IsClean (task_view t) → ⊥

-- these are the works of the dirty ones among these tasks, in their order
abbrev pub AreWorksOf : TaskPlan → List Task → List WorkView → Type 0
AreWorksOf plan [] [] = Unit {0}
AreWorksOf plan [] (f ∷ fs) = ⊥
AreWorksOf plan (t ∷ ts) [] = IsCleanTask t × AreWorksOf plan ts []
AreWorksOf plan (t ∷ ts) (f ∷ fs) = (IsCleanTask t × AreWorksOf plan ts (f ∷ fs)) ⊎ (IsDirtyTask t × IsFrozen plan (task_view t) f × AreWorksOf plan ts fs)

-- these are the clean ones among these tasks, in their order
abbrev pub AreCleanOf : List Task → List Task → Type 0
AreCleanOf [] [] = Unit {0}
AreCleanOf [] (x ∷ xs) = ⊥
AreCleanOf (t ∷ ts) [] = IsDirtyTask t × AreCleanOf ts []
AreCleanOf (t ∷ ts) (x ∷ xs) = (IsDirtyTask t × AreCleanOf ts (x ∷ xs)) ⊎ (IsCleanTask t × (x ≡ t) × AreCleanOf ts xs)
