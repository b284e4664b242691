-- What is pending of each producer.
use Rattle.std.specs.Prelude.{ℕ, suc, ◌+◌, ◌==◌, ◌&&◌, ◌||◌, Bool, true, false, not, if◌then◌else◌, Option, Some, None, List, [], ◌∷◌}
use Rattle.std.specs.List.{slice_get}
use Rattle.ks_record.specs.declared.record.TaskId.{TaskId}
use Rattle.ks_record.specs.Parts.{same_task, task_lt}
use Rattle.ks_record.specs.declared.assignment.Refused.{Refused}
use Rattle.ks_record.specs.declared.assignment.Refused.TheVariants.{Unstable}
use Rattle.ks_history.specs.declared.transaction.Pending.{Pending}
use Rattle.ks_history.specs.Partition.{is_none}
use Rattle.ks_history.specs.State.{pending_of}

-- all producers but one count
abbrev pub counts_for : Option ℕ → ℕ → Bool
counts_for None = λ v. true
counts_for (Some w) = λ v. not (v == w)

abbrev pub is_pending : TaskId → List Pending → Bool
is_pending t pending = not (is_none (pending_of t pending))

-- the least producer of those that count that has offsets pending for the task; the first one has the number v
abbrev pub unstable_in : TaskId → (ℕ → Bool) → ℕ → List (List Pending) → Option Refused
unstable_in t counts v [] = None
unstable_in t counts v (pending ∷ more) = if counts v && is_pending t pending then Some (Unstable v) else unstable_in t counts (v + 1) more

-- where a task's offsets stand among pending ones in order of tasks, or where they would stand
abbrev pub pending_place : TaskId → List Pending → ℕ
pending_place t [] = 0
pending_place t (p ∷ ps) = if same_task t p.task || task_lt t p.task then 0 else suc (pending_place t ps)

-- the offsets at a place are a task's
abbrev pub is_at : TaskId → ℕ → List Pending → Bool
is_at t i ps = elim (slice_get ps i) [ None ↦ false | Some p ↦ same_task t p.task ]
