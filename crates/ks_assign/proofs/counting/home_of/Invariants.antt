use Rattle.std.proofs.Common.{◌≡◌, drop}
use Rattle.ks_assign.specs.Placement.{home}
use Rattle.ks_assign.proofs.counting.home_of.Given as goal

abbrev pub invariant-loop-client : goal.invariant-loop-client
invariant-loop-client l = home (drop l.client-index l.clients) l.worker ≡ home l.clients l.worker
