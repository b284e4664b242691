use Rattle.std.proofs.Common.{◌≡◌, drop}
use Rattle.ks_assign.specs.Placement.{by_client, each_once}
use Rattle.ks_assign.proofs.points.are_each_once.Given as goal

abbrev pub invariant-loop-t : goal.invariant-loop-t
invariant-loop-t l = each_once (drop l.t-index l.tasks) (by_client l.clients l.active) ≡ each_once l.tasks (by_client l.clients l.active)
