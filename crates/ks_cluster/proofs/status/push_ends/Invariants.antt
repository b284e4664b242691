use Rattle.std.proofs.Common.{◌≡◌, ◌++◌, ◌-◌, ◌≤◌}
use Rattle.ks_cluster.specs.Statuses.{ends_on}
use Rattle.ks_cluster.proofs.status.push_ends.Given as goal

abbrev pub invariant-loop-part : goal.invariant-loop-part
invariant-loop-part l = l.made.items ++ ends_on l.log l.topic l.part (l.count - l.part) ≡ l.fn.made.items ++ ends_on l.log l.topic 0 l.count
