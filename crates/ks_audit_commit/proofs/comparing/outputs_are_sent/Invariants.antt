use Rattle.std.proofs.Common.{◌≡◌, length}
use Rattle.ks_audit_commit.specs.Comparing.{outputs_are_sent}
use Rattle.ks_audit_commit.proofs.comparing.outputs_are_sent.Given as goal

abbrev pub invariant-loop-rest : goal.invariant-loop-rest
invariant-loop-rest l = outputs_are_sent l.task l.sent l.rest ≡ outputs_are_sent l.task l.sent l.outputs

abbrev pub decreases-loop-rest : goal.decreases-loop-rest
decreases-loop-rest l = length l.rest
