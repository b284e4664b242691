use Rattle.std.proofs.Common.{◌≡◌, ◌++◌, length}
use Rattle.ks_job.proofs.places.copy_topics.Given as goal

abbrev pub invariant-loop-rest : goal.invariant-loop-rest
invariant-loop-rest l = l.copies.items ++ l.rest ≡ l.topics

abbrev pub decreases-loop-rest : goal.decreases-loop-rest
decreases-loop-rest l = length l.rest
