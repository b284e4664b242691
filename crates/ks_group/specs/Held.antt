-- The positions that workers hold as one list, each beside its worker.
use Rattle.std.specs.Prelude.{ℕ, ◌+◌, ◌==◌, ◌&&◌, if◌then◌else◌, nat_le, nat_lt, List, [], ◌∷◌, ◌++◌, map}
use Rattle.ks_record.specs.declared.record.TaskId.{TaskId}

-- those of one worker
abbrev pub held_by : ℕ → List (TaskId × ℕ) → List (ℕ × TaskId × ℕ)
held_by w held = map (λ h. (w, h.0, h.1)) held

-- those of the workers from one on and below another
abbrev pub held_between : ℕ → ℕ → List (ℕ × TaskId × ℕ) → List (ℕ × TaskId × ℕ)
held_between from to [] = []
held_between from to (h ∷ hs) = if nat_le from h.0 && nat_lt h.0 to then h ∷ held_between from to hs else held_between from to hs

-- those of all workers but one
abbrev pub held_without : ℕ → List (ℕ × TaskId × ℕ) → List (ℕ × TaskId × ℕ)
held_without w [] = []
held_without w (h ∷ hs) = if h.0 == w then held_without w hs else h ∷ held_without w hs

-- with other positions of a worker, in the order of workers
abbrev pub held_with : ℕ → List (TaskId × ℕ) → List (ℕ × TaskId × ℕ) → List (ℕ × TaskId × ℕ)
held_with w new held = held_between 0 w held ++ held_by w new ++ held_between (w + 1) 17 held
