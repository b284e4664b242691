use Rattle.std.proofs.Common.{◌≡◌, ◌++◌, map, drop}
use Rattle.ks_task_processing.specs.Steps.{at_part}
use Rattle.ks_task_step.proofs.counts.push_recs.Given as goal

abbrev pub invariant-loop-place : goal.invariant-loop-place
invariant-loop-place l = l.out ++ map (at_part l.topic l.part) (drop l.place l.recs) ≡ l.initial.out ++ map (at_part l.topic l.part) l.recs
