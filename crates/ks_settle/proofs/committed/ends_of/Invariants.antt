use Rattle.std.proofs.Common.{◌≡◌, length}
use Rattle.ks_settle.specs.Drained.{ends_for}
use Rattle.ks_settle.proofs.committed.ends_of.Given as goal

-- the names that are left decide, with their ends
abbrev pub invariant-loop-rest : goal.invariant-loop-rest
invariant-loop-rest l = ends_for l.task l.rest l.left ≡ ends_for l.task l.worked l.ends

abbrev pub decreases-loop-rest : goal.decreases-loop-rest
decreases-loop-rest l = length l.rest
