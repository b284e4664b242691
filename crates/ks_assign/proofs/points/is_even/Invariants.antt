use Rattle.std.proofs.Common.{◌≡◌, ◌+◌, nat_le, drop}
use Rattle.std.specs.List.{list_all}
use Rattle.ks_assign.specs.Placement.{load}
use Rattle.ks_assign.proofs.points.is_even.Given as goal

abbrev pub invariant-loop-w : goal.invariant-loop-w
invariant-loop-w l = list_all (λ w. list_all (λ v. nat_le (load w l.active) (load v l.active + 1)) l.workers) ((drop l.w-index l.workers)) ≡ list_all (λ w. list_all (λ v. nat_le (load w l.active) (load v l.active + 1)) l.workers) (l.workers)
