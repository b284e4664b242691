use Rattle.std.proofs.Common.{◌≡◌, true, drop, ◌++◌}
use Rattle.ks_assign.specs.Placement.{by_client}
use Rattle.ks_assign.specs.Steps.{all_home, wanted}
use Rattle.ks_assign.proofs.backing.add_wanted.Given as goal

abbrev pub invariant-loop-c : goal.invariant-loop-c
invariant-loop-c l = (by_client l.clients l.out.items ++ wanted (drop l.c-index l.clients) l.loads (by_client l.clients l.standby) l.p ≡ by_client l.clients l.fn.out.items ++ wanted l.clients l.loads (by_client l.clients l.standby) l.p) × (all_home l.clients l.fn.out.items ≡ true → all_home l.clients l.out.items ≡ true)
