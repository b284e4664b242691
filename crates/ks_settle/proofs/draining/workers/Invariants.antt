use Rattle.std.proofs.Common.{◌≡◌, ◌++◌, drop}
use Rattle.ks_commit.specs.Committed.{works_of, tasks_in}
use Rattle.ks_settle.proofs.draining.workers.Given as goal

-- the tasks so far
abbrev pub invariant-loop-work : goal.invariant-loop-work
invariant-loop-work l = l.worked.items ++ tasks_in (works_of (drop l.work-index l.works)) ≡ tasks_in (works_of l.works)
