use Rattle.std.proofs.Common.{◌≡◌, length}
use Rattle.ks_law_restore.specs.Views.{names_part}
use Rattle.ks_audit_commit.proofs.comparing.has_output.Given as goal

abbrev pub invariant-loop-rest : goal.invariant-loop-rest
invariant-loop-rest l = names_part l.part l.rest ≡ names_part l.part l.outputs

abbrev pub decreases-loop-rest : goal.decreases-loop-rest
decreases-loop-rest l = length l.rest
