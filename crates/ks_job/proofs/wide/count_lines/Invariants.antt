use Rattle.std.proofs.Common.{◌≤◌, ◌+◌, length}
use Rattle.ks_job.proofs.wide.count_lines.Given as goal

abbrev pub invariant-loop-next : goal.invariant-loop-next
invariant-loop-next l = l.count + length l.rest ≤ length l.bytes

abbrev pub decreases-loop-next : goal.decreases-loop-next
decreases-loop-next l = length l.rest
