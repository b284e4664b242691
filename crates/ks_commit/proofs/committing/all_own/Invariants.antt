use Rattle.std.proofs.Common.{◌≡◌, ◌++◌, drop}
use Rattle.ks_commit.specs.Committed.{works_of, own_of_each}
use Rattle.ks_commit.proofs.committing.all_own.Given as goal

abbrev pub invariant-loop-work : goal.invariant-loop-work
invariant-loop-work l = l.all.items ++ own_of_each (works_of (drop l.work-index l.works)) ≡ own_of_each (works_of l.works)
