use Rattle.std.proofs.Common.{◌≡◌, true, drop, take, ◌++◌}
use Rattle.ks_assign.specs.Placement.{by_client}
use Rattle.ks_assign.specs.Steps.{all_home, others}
use Rattle.ks_assign.proofs.backing.add_others.Given as goal

abbrev pub invariant-loop-c : goal.invariant-loop-c
invariant-loop-c l = (by_client l.clients l.out.items ++ take l.left (others (drop l.c-index l.clients) l.p.1 l.p.0) ≡ by_client l.clients l.fn.out.items ++ take l.count (others l.clients l.p.1 l.p.0)) × (all_home l.clients l.fn.out.items ≡ true → all_home l.clients l.out.items ≡ true)
