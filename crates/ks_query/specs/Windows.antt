-- Hopping windows of a timestamp, and the keys of windowed tables.
-- Kafka Streams developer guide, "Windowing": hopping time windows, tumbling where the advance is the size.
use Rattle.std.specs.Prelude.{ℕ, zero, suc, ◌+◌, ◌*◌, ◌/◌, List, [], ◌∷◌, ◌++◌, nat_lt}
use Rattle.std.specs.List.{filter}
use Rattle.std.specs.declared.cmp.Ordering.{Ordering}
use Rattle.std.specs.Ordering.{nat_cmp, ordering_then}
use Rattle.ks_def_runs.specs.Bytes.{by_bytes}
use Rattle.ks_plan.specs.Plan.{Window}

-- a group's key and the start of a window
abbrev pub WindowKey : Type 0
WindowKey = List ℕ × ℕ

-- by key bytes, then by start: the order in which they are printed
abbrev pub by_window : WindowKey → WindowKey → Ordering
by_window a b = ordering_then (by_bytes a.0 b.0) (nat_cmp a.1 b.1)

-- the first n multiples of a number, from 0, rising
abbrev pub multiples : ℕ → ℕ → List ℕ
multiples a zero = []
multiples a (suc n) = multiples a n ++ n * a ∷ []

-- the starts of the windows that hold a time: the multiples of the advance up to the time whose window ends after it
abbrev pub windows : Window → ℕ → List ℕ
windows w t = filter (λ s. nat_lt t (s + w.size)) (multiples w.advance (t / w.advance + 1))
