-- All tasks at one worker.
use Rattle.std.specs.Prelude.{◌≡◌, ℕ, true, List, [], ◌∷◌}
use Rattle.ks_record.specs.declared.record.PartId.{PartId}
use Rattle.ks_record.specs.declared.record.TaskId.{TaskId}
use Rattle.ks_record.specs.declared.assignment.Assignment.{Assignment}
use Rattle.ks_cluster.specs.Placed.{PlacementTest}

abbrev pub at_worker : ℕ → List TaskId → List (TaskId × ℕ)
at_worker w [] = []
at_worker w (t ∷ ts) = (t, w) ∷ at_worker w ts

abbrev pub everything : ℕ → List TaskId → Assignment
everything w tasks = record { active = at_worker w tasks; standby = []; warmup = [] }

-- the assignment is good for these members, whatever they hold and wherever the changelogs end
abbrev pub IsGoodForAll : PlacementTest → List ℕ → Assignment → Type 0
IsGoodForAll test members a = (held : List (ℕ × TaskId × ℕ)) (ends : List (PartId × ℕ)) → test members held ends a ≡ true
