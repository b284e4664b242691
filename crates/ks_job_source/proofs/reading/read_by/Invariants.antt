use Rattle.std.proofs.Common.{◌-◌}
use Rattle.ks_job_source.specs.Reading.{machine_of}
use Rattle.ks_job_source.proofs.Taking.{Taking}
use Rattle.ks_job_source.proofs.reading.read_by.Given as goal

abbrev pub invariant-loop-count : goal.invariant-loop-count
invariant-loop-count g l =
    Taking (g.S.Source.left l.fn.input) (g.S.Source.left l.input) (g.S.Source.faults l.fn.input) (g.S.Source.faults l.input) (machine_of l.reader l.items.items) l.taken l.buf

abbrev pub decreases-loop-count : goal.decreases-loop-count
decreases-loop-count g l = 67174401 - l.taken
