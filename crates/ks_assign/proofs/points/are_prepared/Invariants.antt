use Rattle.std.proofs.Common.{◌≡◌, drop}
use Rattle.std.specs.List.{list_all}
use Rattle.ks_assign.specs.Placement.{by_client, is_prepared}
use Rattle.ks_assign.proofs.points.are_prepared.Given as goal

abbrev pub invariant-loop-p : goal.invariant-loop-p
invariant-loop-p l = list_all (λ p. is_prepared l.clients (by_client l.clients l.a.active) (by_client l.clients l.a.standby) (by_client l.clients l.a.warmup) p) (by_client l.clients (drop l.p-index l.a.active)) ≡ list_all (λ p. is_prepared l.clients (by_client l.clients l.a.active) (by_client l.clients l.a.standby) (by_client l.clients l.a.warmup) p) (by_client l.clients l.a.active)
