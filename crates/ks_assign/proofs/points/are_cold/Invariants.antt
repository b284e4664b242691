use Rattle.std.proofs.Common.{◌≡◌, ◌+◌, ◌==◌, ◌&&◌, not, drop}
use Rattle.std.specs.List.{list_all}
use Rattle.ks_assign.specs.Lag.{warm}
use Rattle.ks_assign.specs.Placement.{by_client, copies}
use Rattle.ks_assign.proofs.points.are_cold.Given as goal

abbrev pub invariant-loop-p : goal.invariant-loop-p
invariant-loop-p l = list_all (λ p. not (warm l.held l.most p.1 p.0) && ((copies p.0 p.1 (by_client l.clients l.a.active) + copies p.0 p.1 (by_client l.clients l.a.standby) + copies p.0 p.1 (by_client l.clients l.a.warmup)) == 1)) (by_client l.clients (drop l.p-index l.a.warmup)) ≡ list_all (λ p. not (warm l.held l.most p.1 p.0) && ((copies p.0 p.1 (by_client l.clients l.a.active) + copies p.0 p.1 (by_client l.clients l.a.standby) + copies p.0 p.1 (by_client l.clients l.a.warmup)) == 1)) (by_client l.clients l.a.warmup)
