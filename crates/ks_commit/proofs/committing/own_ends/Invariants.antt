use Rattle.std.proofs.Common.{◌≡◌, ◌++◌, drop}
use Rattle.ks_cluster.specs.View.{state_of}
use Rattle.ks_commit.specs.Committed.{ends_at}
use Rattle.ks_commit.proofs.committing.own_ends.Given as goal

abbrev pub invariant-loop-part : goal.invariant-loop-part
invariant-loop-part g l = l.made.items ++ ends_at (state_of g.W.Work.plan l.cluster) (drop l.part-index l.own) ≡ ends_at (state_of g.W.Work.plan l.cluster) l.own
