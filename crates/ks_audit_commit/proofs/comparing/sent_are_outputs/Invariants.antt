use Rattle.std.proofs.Common.{◌≡◌, length}
use Rattle.ks_audit_commit.specs.Comparing.{sent_are_outputs}
use Rattle.ks_audit_commit.proofs.comparing.sent_are_outputs.Given as goal

abbrev pub invariant-loop-rest : goal.invariant-loop-rest
invariant-loop-rest l = sent_are_outputs l.task l.outputs l.rest ≡ sent_are_outputs l.task l.outputs l.sent

abbrev pub decreases-loop-rest : goal.decreases-loop-rest
decreases-loop-rest l = length l.rest
