use Rattle.std.proofs.Common.{◌≡◌, [], drop}
use Rattle.ks_commit.specs.Committed.{works_of}
use Rattle.ks_worker_commit.specs.Outputs.{parts_in}
use Rattle.ks_worker_commit.proofs.outputs.output_parts.Given as goal

abbrev pub invariant-loop-work : goal.invariant-loop-work
invariant-loop-work l = parts_in l.made.items (works_of (drop l.work-index l.works)) ≡ parts_in [] (works_of l.works)
