-- The committed offsets: each task, in the order of the tasks, beside the committed offset of each of its inputs.
use Rattle.std.specs.Prelude.{ℕ, if◌then◌else◌, Some, None, List, [], ◌∷◌, map}
use Rattle.ks_record.specs.declared.record.TaskId.{TaskId}
use Rattle.ks_record.specs.Parts.{same_task}
use Rattle.ks_history.specs.State.{pending_of, offset_in}
use Rattle.ks_history.specs.declared.transaction.Pending.{Pending}

-- the offsets of a task
abbrev pub offsets_of : TaskId → List (TaskId × List (ℕ × ℕ)) → List (ℕ × ℕ)
offsets_of t [] = []
offsets_of t (row ∷ rows) = if same_task t row.0 then row.1 else offsets_of t rows

-- nothing is committed of these inputs
abbrev pub none_committed : List ℕ → List (ℕ × ℕ)
none_committed inputs = map (λ topic. (topic, 0)) inputs

-- a topic's offset, and each offset, after these are committed
abbrev pub pair_with : List (ℕ × ℕ) → ℕ × ℕ → ℕ × ℕ
pair_with named pair = (pair.0, offset_in pair.1 pair.0 named)

abbrev pub offsets_with : List (ℕ × ℕ) → List (ℕ × ℕ) → List (ℕ × ℕ)
offsets_with named offsets = map (pair_with named) offsets

-- a task's offsets after what is pending is committed
abbrev pub row_with : List Pending → TaskId × List (ℕ × ℕ) → TaskId × List (ℕ × ℕ)
row_with pending row = (row.0, elim (pending_of row.0 pending) [ None ↦ row.1 | Some p ↦ offsets_with p.offsets row.1 ])
