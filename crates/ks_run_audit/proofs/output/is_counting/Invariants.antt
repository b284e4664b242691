use Rattle.std.proofs.Common.{◌≡◌, length}
use Rattle.ks_settle.specs.Rows.{node_named}
use Rattle.ks_run_audit.specs.Outputs.{windows_of}
use Rattle.ks_run_audit.proofs.output.is_counting.Given as goal

abbrev pub invariant-loop-rest : goal.invariant-loop-rest
invariant-loop-rest l = windows_of (node_named l.rest l.name) ≡ windows_of (node_named l.nodes l.name)

abbrev pub decreases-loop-rest : goal.decreases-loop-rest
decreases-loop-rest l = length l.rest
