use Rattle.std.proofs.Common.{◌≡◌, drop}
use Rattle.ks_assign.specs.Placement.{has_worker}
use Rattle.ks_assign_group.proofs.lags.is_one_of.Given as goal

abbrev pub invariant-loop-v : goal.invariant-loop-v
invariant-loop-v l = has_worker l.w (drop l.v-index l.workers) ≡ has_worker l.w l.workers
