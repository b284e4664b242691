use Rattle.std.proofs.Common.{◌≡◌, length}
use Rattle.ks_audit_commit.specs.Ends.{are_from}
use Rattle.ks_audit_commit.proofs.ends.is_behind.Given as goal

abbrev pub invariant-loop-rest : goal.invariant-loop-rest
invariant-loop-rest l = are_from l.task l.ends l.sent l.rest ≡ are_from l.task l.ends l.sent l.sent

abbrev pub decreases-loop-rest : goal.decreases-loop-rest
decreases-loop-rest l = length l.rest
