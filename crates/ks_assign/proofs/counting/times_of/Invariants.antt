use Rattle.std.proofs.Common.{◌≡◌, ◌+◌, ◌≤◌, drop}
use Rattle.ks_assign.specs.Placement.{by_client, times}
use Rattle.ks_assign.proofs.counting.times_of.Given as goal

abbrev pub invariant-loop-p : goal.invariant-loop-p
invariant-loop-p l = (l.n + times l.task (by_client l.clients (drop l.p-index l.places)) ≡ times l.task (by_client l.clients l.places)) × (l.n ≤ l.p-index)
