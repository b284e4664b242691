use Rattle.std.proofs.Common.{◌≡◌, ◌+◌, length}
use Rattle.std.specs.Prelude.{option_map}
use Rattle.ks_expr.specs.Keys.{place_in}
use Rattle.ks_expr.proofs.keys.first_place.Given as goal

abbrev pub invariant-loop-rest : goal.invariant-loop-rest
invariant-loop-rest l = (option_map (λ n. l.place + n) (place_in l.text l.rest) ≡ place_in l.text l.bytes) × (l.place + length l.rest ≡ length l.bytes)

abbrev pub decreases-loop-rest : goal.decreases-loop-rest
decreases-loop-rest l = length l.rest
