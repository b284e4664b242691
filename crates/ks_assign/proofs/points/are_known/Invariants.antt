use Rattle.std.proofs.Common.{◌≡◌, drop}
use Rattle.ks_assign.specs.Placement.{by_client, all_known}
use Rattle.ks_assign.proofs.points.are_known.Given as goal

abbrev pub invariant-loop-p : goal.invariant-loop-p
invariant-loop-p l = all_known l.tasks (by_client l.clients (drop l.p-index l.places)) ≡ all_known l.tasks (by_client l.clients l.places)
