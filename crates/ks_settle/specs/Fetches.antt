-- Where a task stands after the records of a fetch.
use Rattle.std.specs.Prelude.{ℕ, ◌+◌, List, [], ◌∷◌}
use Rattle.ks_record.specs.Records.{Record as Rec}

-- one past the last record, else where it stood
abbrev pub taken_to : ℕ → List (ℕ × Rec) → ℕ
taken_to from [] = from
taken_to from (r ∷ rs) = taken_to (r.0 + 1) rs
