-- Bytes cut into lines.
use Rattle.std.specs.Prelude.{◌≡◌, ◌⊎◌, ℕ, false, List, [], ◌∷◌, ◌++◌}
use Rattle.ks_job.specs.Reader.{is_line_end}

-- no line ends in these bytes
abbrev pub HasNoEnd : List ℕ → Type 0
HasNoEnd [] = Unit {0}
HasNoEnd (x ∷ xs) = (is_line_end x ≡ false) × HasNoEnd xs

-- a line, with its end or without it
abbrev pub IsLine : List ℕ → Type 0
IsLine xs = HasNoEnd xs ⊎ ((front : List ℕ) × HasNoEnd front × (xs ≡ front ++ 10 ∷ []))
