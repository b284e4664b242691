use Rattle.std.proofs.Common.{◌≡◌, length}
use Rattle.ks_audit_commit.specs.Ends.{first_in}
use Rattle.ks_audit_commit.proofs.ends.first_in.Given as goal

abbrev pub invariant-loop-rest : goal.invariant-loop-rest
invariant-loop-rest l = first_in l.task l.part l.rest ≡ first_in l.task l.part l.sent

abbrev pub decreases-loop-rest : goal.decreases-loop-rest
decreases-loop-rest l = length l.rest
