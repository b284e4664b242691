use Rattle.std.proofs.Common.{◌≡◌, ◌-◌, ◌==◌, ◌&&◌, min, drop, length}
use Rattle.std.specs.List.{list_all}
use Rattle.ks_assign.specs.Placement.{by_client, times, is_spread}
use Rattle.ks_assign.proofs.points.has_standbys.Given as goal

abbrev pub invariant-loop-t : goal.invariant-loop-t
invariant-loop-t l = list_all (λ t. (times t (by_client l.clients l.a.standby) == min l.wanted (length l.clients - 1)) && is_spread l.clients t (by_client l.clients l.a.active) (by_client l.clients l.a.standby)) ((drop l.t-index l.tasks)) ≡ list_all (λ t. (times t (by_client l.clients l.a.standby) == min l.wanted (length l.clients - 1)) && is_spread l.clients t (by_client l.clients l.a.active) (by_client l.clients l.a.standby)) (l.tasks)
