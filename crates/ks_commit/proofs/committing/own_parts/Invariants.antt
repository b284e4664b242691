use Rattle.std.proofs.Common.{◌≡◌, ◌++◌, drop}
use Rattle.ks_commit.specs.Committed.{own_in}
use Rattle.ks_commit.proofs.committing.own_parts.Given as goal

abbrev pub invariant-loop-out : goal.invariant-loop-out
invariant-loop-out l = l.own.items ++ own_in l.work.task (drop l.out-index l.work.outputs) ≡ own_in l.work.task l.work.outputs
