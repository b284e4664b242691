use Rattle.std.proofs.Common.{◌≡◌, ◌+◌, ◌-◌}
use Rattle.ks_history.specs.Reads.{waiting_from}
use Rattle.ks_cluster.specs.Statuses.{with_producers}
use Rattle.ks_cluster.proofs.waiting.marker_count.Given as goal

abbrev pub invariant-loop-w : goal.invariant-loop-w
invariant-loop-w l = l.count + waiting_from (with_producers l.txns) l.w (17 - l.w) ≡ waiting_from (with_producers l.txns) 0 17
