use Rattle.std.proofs.Common.{length}
use Rattle.ks_run_audit.proofs.Ends.{IsBehind}
use Rattle.ks_run_audit.proofs.ending.first_wrong.Given as goal

abbrev pub invariant-loop-rest : goal.invariant-loop-rest
invariant-loop-rest l = IsBehind l.tables l.rest l.lines l.left

abbrev pub decreases-loop-rest : goal.decreases-loop-rest
decreases-loop-rest l = length l.rest
