use Rattle.std.proofs.Common.{◌≡◌, ◌+◌, ◌||◌, not, nat_le, drop}
use Rattle.std.specs.List.{list_all}
use Rattle.ks_assign.specs.Placement.{by_client, copies, outweighs}
use Rattle.ks_assign.proofs.points.is_prepared.Given as goal

abbrev pub invariant-loop-b : goal.invariant-loop-b
invariant-loop-b l = list_all (λ b. not (outweighs l.p.1 b.instance l.loads) || nat_le 1 (copies l.p.0 b.instance (by_client l.clients l.a.standby) + copies l.p.0 b.instance (by_client l.clients l.a.warmup))) ((drop l.b-index l.clients)) ≡ list_all (λ b. not (outweighs l.p.1 b.instance l.loads) || nat_le 1 (copies l.p.0 b.instance (by_client l.clients l.a.standby) + copies l.p.0 b.instance (by_client l.clients l.a.warmup))) (l.clients)
