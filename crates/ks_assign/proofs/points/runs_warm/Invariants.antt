use Rattle.std.proofs.Common.{◌≡◌, drop}
use Rattle.ks_assign.specs.Placement.{by_client, runs_warm}
use Rattle.ks_assign.proofs.points.runs_warm.Given as goal

abbrev pub invariant-loop-p : goal.invariant-loop-p
invariant-loop-p l = runs_warm l.clients l.held l.most (by_client l.clients (drop l.p-index l.active)) ≡ runs_warm l.clients l.held l.most (by_client l.clients l.active)
