use Rattle.std.proofs.Common.{◌≡◌, length}
use Rattle.ks_audit_commit.specs.Naming.{offset_named}
use Rattle.ks_audit_commit.proofs.ordering.offset_of.Given as goal

abbrev pub invariant-loop-rest : goal.invariant-loop-rest
invariant-loop-rest l = offset_named l.topic l.rest ≡ offset_named l.topic l.offsets

abbrev pub decreases-loop-rest : goal.decreases-loop-rest
decreases-loop-rest l = length l.rest
