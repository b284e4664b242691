use Rattle.std.proofs.Common.{◌≡◌, ◌≤◌, drop, length}
use Rattle.ks_audit_commit.specs.Comparing.{are_sent}
use Rattle.ks_audit_commit.proofs.comparing.are_sent.Given as goal

abbrev pub invariant-loop-rest : goal.invariant-loop-rest
invariant-loop-rest l = (are_sent l.task l.part (drop l.at l.recs) l.rest ≡ are_sent l.task l.part l.recs l.sent) × (l.at ≤ length l.recs)

abbrev pub decreases-loop-rest : goal.decreases-loop-rest
decreases-loop-rest l = length l.rest
