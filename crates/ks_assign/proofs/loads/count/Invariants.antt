use Rattle.std.proofs.Common.{◌≡◌, ◌+◌, ◌<◌, ◌≤◌, drop, length, ℕ, get_or}
use Rattle.ks_assign.specs.Placement.{by_client, load}
use Rattle.ks_assign.proofs.loads.count.Given as goal

abbrev pub invariant-loop-p : goal.invariant-loop-p
invariant-loop-p l = (length l.counts ≡ 257) × ((i : ℕ) → i < 257 → (get_or l.counts i 0 + load i (by_client l.clients (drop l.p-index l.places)) ≡ load i (by_client l.clients l.places)) × (get_or l.counts i 0 ≤ l.p-index))
