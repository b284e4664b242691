-- Records in time: those that no windowed count drops, in whatever order they come.
-- Kafka Streams developer guide, "Windowing", on the grace period.
use Rattle.std.specs.Prelude.{◌≡◌, ℕ, ◌+◌, max, List, [], ◌∷◌, Option, Some, Bool, true, ◌&&◌, nat_lt, slice_get}
use Rattle.ks_query.specs.Streams.{Key}
use Rattle.ks_plan.specs.Drafts.{Name}
use Rattle.ks_plan.specs.Plan.{Plan, Window}
use Rattle.ks_plan.specs.Plan.Kind.{Windowed}
use Rattle.ks_query.specs.Windows.{windows}
use Rattle.ks_query.specs.Streams.{Input, StreamItem, grouped}
use Rattle.ks_query.specs.Query.{query}

abbrev pub greatest_time : List (Key × StreamItem) → ℕ
greatest_time [] = 0
greatest_time (x ∷ xs) = max x.1.time (greatest_time xs)

-- a window is open at a time, by its start
abbrev pub is_open : Window → ℕ → ℕ → Bool
is_open w now s = nat_lt now (s + w.size + w.grace)

abbrev pub all_open : Window → ℕ → List ℕ → Bool
all_open w now [] = true
all_open w now (s ∷ ss) = is_open w now s && all_open w now ss

-- each window of each item is still open at the greatest time
abbrev pub all_in_time : Window → ℕ → List (Key × StreamItem) → Bool
all_in_time w now [] = true
all_in_time w now (x ∷ xs) = all_open w now (windows w x.1.time) && all_in_time w now xs

abbrev pub IsWithinGrace : Plan → List Input → Type 0
IsWithinGrace p records = (n f : ℕ) (by : Option Name) (w : Window) (through : Bool) → slice_get p.kinds n ≡ Some (Windowed f by w through) →
    all_in_time w (greatest_time (grouped by ((query p records).items f))) (grouped by ((query p records).items f)) ≡ true
