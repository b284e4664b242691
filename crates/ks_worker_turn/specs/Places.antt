-- Where an assignment places a task (KIP-441: active tasks, standbys, warmups).
use Rattle.std.specs.Prelude.{ℕ, ◌==◌, ◌&&◌, ◌||◌, Bool, false, List, [], ◌∷◌}
use Rattle.ks_record.specs.declared.record.TaskId.{TaskId}
use Rattle.ks_record.specs.declared.assignment.Assignment.{Assignment}
use Rattle.ks_record.specs.Parts.{same_task}

-- the task is placed with the worker
abbrev pub has_place : TaskId → ℕ → List (TaskId × ℕ) → Bool
has_place t w [] = false
has_place t w (p ∷ places) = (same_task t p.0 && (p.1 == w)) || has_place t w places

abbrev pub is_placed : Assignment → ℕ → TaskId → Bool
is_placed a w t = has_place t w a.active || (has_place t w a.standby || has_place t w a.warmup)
