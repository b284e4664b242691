use Rattle.std.proofs.Common.{◌≡◌, ◌+◌, ◌-◌, ◌≤◌}
use Rattle.ks_history.specs.Reads.{pending_from}
use Rattle.ks_cluster.specs.Statuses.{with_producers}
use Rattle.ks_cluster.proofs.waiting.pending_count.Given as goal

abbrev pub invariant-loop-w : goal.invariant-loop-w
invariant-loop-w l = (l.count + pending_from (with_producers l.txns) l.w (17 - l.w) ≡ pending_from (with_producers l.txns) 0 17) × (l.count ≤ l.w)
