use Rattle.std.proofs.Common.{◌≡◌, drop}
use Rattle.std.specs.List.{list_all}
use Rattle.ks_assign.specs.Placement.{is_even}
use Rattle.ks_assign.proofs.points.are_even.Given as goal

abbrev pub invariant-loop-c : goal.invariant-loop-c
invariant-loop-c l = list_all (λ c. is_even l.active c.workers) ((drop l.c-index l.clients)) ≡ list_all (λ c. is_even l.active c.workers) (l.clients)
