use Rattle.std.proofs.Common.{◌≡◌, ◌+◌, nat_le, drop}
use Rattle.std.specs.List.{list_all}
use Rattle.ks_assign.specs.Placement.{load}
use Rattle.ks_assign.proofs.points.is_not_above.Given as goal

abbrev pub invariant-loop-v : goal.invariant-loop-v
invariant-loop-v l = list_all (λ v. nat_le (load l.worker l.active) (load v l.active + 1)) ((drop l.v-index l.workers)) ≡ list_all (λ v. nat_le (load l.worker l.active) (load v l.active + 1)) (l.workers)
