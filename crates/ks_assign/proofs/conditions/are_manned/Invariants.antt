use Rattle.std.proofs.Common.{◌≡◌, nat_lt, drop, length}
use Rattle.std.specs.List.{list_all}
use Rattle.ks_assign.proofs.conditions.are_manned.Given as goal

abbrev pub invariant-loop-c : goal.invariant-loop-c
invariant-loop-c l = list_all (λ c. nat_lt 0 (length c.workers)) ((drop l.c-index l.clients)) ≡ list_all (λ c. nat_lt 0 (length c.workers)) (l.clients)
