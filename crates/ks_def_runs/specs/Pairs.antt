-- Pairs of keys and values that are bytes.
use Rattle.std.specs.Prelude.{ℕ, List, [], ◌∷◌}
use Rattle.ks_record.specs.Bytes.{IsBytes}

-- all keys and values are bytes
abbrev pub ArePairs : List (List ℕ × List ℕ) → Type 0
ArePairs [] = Unit {0}
ArePairs (e ∷ es) = (IsBytes e.0 × IsBytes e.1) × ArePairs es
