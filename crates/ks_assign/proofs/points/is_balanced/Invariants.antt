use Rattle.std.proofs.Common.{◌≡◌, drop}
use Rattle.std.specs.List.{list_all}
use Rattle.ks_assign.specs.Placement.{by_client, stays}
use Rattle.ks_assign.proofs.points.is_balanced.Given as goal

abbrev pub invariant-loop-p : goal.invariant-loop-p
invariant-loop-p l = list_all (λ p. stays l.clients l.held l.most (by_client l.clients l.active) p) (by_client l.clients (drop l.p-index l.active)) ≡ list_all (λ p. stays l.clients l.held l.most (by_client l.clients l.active) p) (by_client l.clients l.active)
