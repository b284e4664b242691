use Rattle.std.proofs.Common.{◌≡◌, true, nat_le, take}
use Rattle.std.specs.List.{list_all}
use Rattle.ks_assign.specs.Placement.{has_worker, load}
use Rattle.ks_assign.proofs.spreading.least_worker.Given as goal

abbrev pub invariant-loop-v : goal.invariant-loop-v
invariant-loop-v l = (has_worker l.best l.workers ≡ true) × (l.least ≡ load l.best l.placed) × (list_all (λ v. nat_le l.least (load v l.placed)) (take l.v-index l.workers) ≡ true)
