-- Totals that stay at the greatest number.
use Rattle.std.proofs.Common.{◌≡◌, ℕ, ◌+◌, ◌-◌, ◌^◌, ◌<◌, ◌≤◌, arith, List, length, [], ◌∷◌, Option, refl}
use Rattle.ks_query.specs.Streams.{StreamItem}
use Rattle.ks_history.specs.Faithful.{capped}
use Rattle.ks_def_tasks.specs.Step.{Arrival}
use Rattle.ks_def_tasks.specs.Bytes.{ByteStores}
use Rattle.ks_task_nodes.specs.Nodes.{TaskNode}
use Rattle.ks_task_processing.specs.Steps.{late_at_numbers}

pub none_late : (stores : ByteStores) (a : Arrival) (items : ℕ → Option StreamItem) (all : List TaskNode) (ns : List ℕ) → length ns < 1 → late_at_numbers stores a items all ns ≡ 0
none_late stores a items all [] lt = refl
none_late stores a items all (n ∷ ns) lt = absurd (omega (arith, lt))

pub capped_end : (n r m : ℕ) → n ≤ 2 ^ 64 - 1 → r ≡ 0 → capped (n + r) ≡ m → n ≡ m
capped_end n r m le z e = omega (arith, le, z, e)

pub capped_itself : (n : ℕ) → n ≤ 2 ^ 64 - 1 → n ≡ capped (n + 0)
capped_itself n le = omega (arith, le)
