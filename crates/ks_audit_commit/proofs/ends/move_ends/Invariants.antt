use Rattle.std.proofs.Common.{◌≡◌, length}
use Rattle.ks_audit_commit.specs.Ends.{moved}
use Rattle.ks_audit_commit.proofs.ends.move_ends.Given as goal

abbrev pub invariant-loop-rest : goal.invariant-loop-rest
invariant-loop-rest l = moved l.task l.ends.items l.rest ≡ moved l.task l.fn.ends.items l.sent

abbrev pub decreases-loop-rest : goal.decreases-loop-rest
decreases-loop-rest l = length l.rest
