use Rattle.std.proofs.Common.{◌≡◌, ◌++◌, drop}
use Rattle.ks_cluster.specs.View.{state_of}
use Rattle.ks_commit.specs.Committed.{ends_of_each}
use Rattle.ks_commit.proofs.committing.all_ends.Given as goal

abbrev pub invariant-loop-own : goal.invariant-loop-own
invariant-loop-own g l = l.made.items ++ ends_of_each (state_of g.W.Work.plan l.cluster) (drop l.own-index l.all) ≡ ends_of_each (state_of g.W.Work.plan l.cluster) l.all
