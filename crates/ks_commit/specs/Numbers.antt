-- Counts by partition.
use Rattle.std.specs.Prelude.{ℕ, if◌then◌else◌, List, [], ◌∷◌}
use Rattle.ks_record.specs.declared.record.PartId.{PartId}
use Rattle.ks_record.specs.Parts.{same_part}

-- without a partition
abbrev pub without : PartId → List (PartId × ℕ) → List (PartId × ℕ)
without q [] = []
without q (pair ∷ pairs) = if same_part q pair.0 then without q pairs else pair ∷ without q pairs

-- with another number for a partition
abbrev pub renumber : PartId → ℕ → List (PartId × ℕ) → List (PartId × ℕ)
renumber q n numbers = (q, n) ∷ without q numbers
