use Rattle.std.proofs.Common.{◌≡◌, ◌-◌, [], length}
use Rattle.ks_job_source.specs.Reading.{machine_of}
use Rattle.ks_job_source.proofs.Taking.{Taking}
use Rattle.ks_job_source.proofs.audit_opening.open_audit.Given as goal

abbrev pub invariant-loop-count : goal.invariant-loop-count
invariant-loop-count g l =
    Taking (g.S.Source.left l.fn.input) (g.S.Source.left l.input) (g.S.Source.faults l.fn.input) (g.S.Source.faults l.input) (machine_of l.reader []) l.taken l.buf
    × (length l.buf ≡ length l.fn.buf)

abbrev pub decreases-loop-count : goal.decreases-loop-count
decreases-loop-count g l = 67174401 - l.taken
