use Rattle.std.proofs.Common.{◌≡◌, ◌+◌, nat_le, drop}
use Rattle.std.specs.List.{list_all}
use Rattle.ks_assign.specs.Placement.{by_client, copies}
use Rattle.ks_assign.proofs.points.is_spread.Given as goal

abbrev pub invariant-loop-c : goal.invariant-loop-c
invariant-loop-c l = list_all (λ c. nat_le (copies l.task c.instance (by_client l.clients l.a.active) + copies l.task c.instance (by_client l.clients l.a.standby)) 1) ((drop l.c-index l.clients)) ≡ list_all (λ c. nat_le (copies l.task c.instance (by_client l.clients l.a.active) + copies l.task c.instance (by_client l.clients l.a.standby)) 1) (l.clients)
