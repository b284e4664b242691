-- Where the row of each task stands among the rows.
use Rattle.std.specs.Prelude.{◌≡◌, ℕ, suc, ◌+◌, ◌*◌, ◌<◌, if◌then◌else◌, List, [], ◌∷◌, length, get_or}
use Rattle.ks_record.specs.declared.record.TaskId.{TaskId}
use Rattle.ks_record.specs.Parts.{same_task}

-- where a task's row stands, or how many rows there are
abbrev pub row_place : TaskId → List (TaskId × List (ℕ × ℕ)) → ℕ
row_place t [] = 0
row_place t (row ∷ rows) = if same_task t row.0 then 0 else suc (row_place t rows)

-- the number of a task among all that there may be
abbrev pub task_number : TaskId → ℕ
task_number t = t.sub * 256 + t.part

-- at the number of each task stands the place of its row
abbrev pub ArePlaces : List ℕ → List (TaskId × List (ℕ × ℕ)) → Type 0
ArePlaces places rows = (t : TaskId) → t.part < 256 → get_or places (task_number t) (length rows) ≡ row_place t rows
