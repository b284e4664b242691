use Rattle.std.proofs.Common.{◌≡◌, true, drop, ◌++◌}
use Rattle.ks_assign.specs.Placement.{by_client}
use Rattle.ks_assign.specs.Steps.{all_home, all_others}
use Rattle.ks_assign.proofs.backing.standbys.Given as goal

abbrev pub invariant-loop-p : goal.invariant-loop-p
invariant-loop-p l = (by_client l.clients l.out.items ++ all_others l.clients l.count (by_client l.clients (drop l.p-index l.active)) ≡ all_others l.clients l.count (by_client l.clients l.active)) × (all_home l.clients l.out.items ≡ true)
