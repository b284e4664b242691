use Rattle.std.proofs.Common.{◌≡◌, true, take}
use Rattle.ks_assign.specs.Placement.{by_client, all_even}
use Rattle.ks_assign.proofs.spreading.spread.Given as goal

abbrev pub invariant-loop-p : goal.invariant-loop-p
invariant-loop-p l = (by_client l.clients l.made.items ≡ by_client l.clients (take l.p-index l.places)) × (all_even l.clients l.made.items ≡ true)
