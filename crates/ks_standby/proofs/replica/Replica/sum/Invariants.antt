use Rattle.std.proofs.Common.{◌≡◌, ◌+◌, ◌≤◌, length}
use Rattle.std.specs.Prelude.{min, ◌^◌, ◌-◌}
use Rattle.ks_standby.specs.Replicas.{sum_of, position_sum}
use Rattle.ks_standby.proofs.replica.Replica.sum.Given as goal

abbrev pub invariant-loop-rest : goal.invariant-loop-rest
invariant-loop-rest l = (min (l.sum + sum_of l.rest) (2 ^ 64 - 1) ≡ position_sum l.self.changelogs.items) × (l.sum ≤ 2 ^ 64 - 1)

abbrev pub decreases-loop-rest : goal.decreases-loop-rest
decreases-loop-rest l = length l.rest
