use Rattle.std.proofs.Common.{◌≡◌, not, drop}
use Rattle.std.specs.List.{list_all}
use Rattle.ks_assign.specs.Placement.{employs}
use Rattle.ks_assign.proofs.conditions.are_free.Given as goal

abbrev pub invariant-loop-w : goal.invariant-loop-w
invariant-loop-w l = list_all (λ w. not (employs w l.clients)) ((drop l.w-index l.workers)) ≡ list_all (λ w. not (employs w l.clients)) (l.workers)
