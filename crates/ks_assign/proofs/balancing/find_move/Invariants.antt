use Rattle.std.proofs.Common.{◌≡◌, drop}
use Rattle.std.specs.List.{list_all}
use Rattle.ks_assign.specs.Placement.{by_client, stays}
use Rattle.ks_assign.proofs.balancing.find_move.Given as goal

abbrev pub invariant-loop-i : goal.invariant-loop-i
invariant-loop-i l = list_all (λ p. stays l.clients l.held l.most (by_client l.clients l.active) p) (by_client l.clients (drop l.i l.active)) ≡ list_all (λ p. stays l.clients l.held l.most (by_client l.clients l.active) p) (by_client l.clients l.active)
