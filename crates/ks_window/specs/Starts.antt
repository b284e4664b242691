-- The first window of a timestamp.
use Rattle.std.specs.Prelude.{ℕ, ◌-◌, ◌/◌}

-- which multiple of the advance it starts at
abbrev pub first_index : ℕ → ℕ → ℕ → ℕ
first_index t size advance = (t - (size - advance)) / advance
