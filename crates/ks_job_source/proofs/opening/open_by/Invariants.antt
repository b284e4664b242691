use Rattle.std.proofs.Common.{◌-◌, ◌≡◌, []}
use Rattle.ks_job_source.specs.Reading.{machine_of}
use Rattle.ks_job_source.proofs.Taking.{Taking}
use Rattle.ks_job_source.proofs.opening.open_by.Given as goal

abbrev pub invariant-loop-count : goal.invariant-loop-count
invariant-loop-count g l = record {
  taking : Taking (g.S.Source.left l.fn.input) (g.S.Source.left l.input) (g.S.Source.faults l.fn.input) (g.S.Source.faults l.input) (machine_of l.reader l.items.items) l.taken l.buf.items;
  none : l.items.items ≡ [];
}

abbrev pub decreases-loop-count : goal.decreases-loop-count
decreases-loop-count g l = 67174401 - l.taken
