-- The parked pairs of an instance and a task as a list.
use Rattle.std.specs.Prelude.{ℕ, ◌==◌, ◌&&◌, ◌||◌, Bool, false, if◌then◌else◌, List, [], ◌∷◌}
use Rattle.ks_record.specs.Parts.{same_task}
use Rattle.ks_record.specs.declared.record.TaskId.{TaskId}

-- a task is parked at an instance
abbrev pub is_parked_in : ℕ → TaskId → List (ℕ × TaskId) → Bool
is_parked_in i t [] = false
is_parked_in i t (pair ∷ pairs) = ((i == pair.0) && same_task t pair.1) || is_parked_in i t pairs

-- without a task at an instance
abbrev pub unparked_in : ℕ → TaskId → List (ℕ × TaskId) → List (ℕ × TaskId)
unparked_in i t [] = []
unparked_in i t (pair ∷ pairs) = if (i == pair.0) && same_task t pair.1 then unparked_in i t pairs else pair ∷ unparked_in i t pairs
