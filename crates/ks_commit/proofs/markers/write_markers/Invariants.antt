use Rattle.std.proofs.Common.{◌≡◌, ◌+◌, ◌≤◌, false, cond, [], length}
use Rattle.ks_cluster.specs.View.{state_of}
use Rattle.ks_commit.specs.Sending.{Marked}
use Rattle.ks_commit.proofs.markers.write_markers.Given as goal

-- where no marker waits any more none is left
abbrev pub invariant-loop-waits : goal.invariant-loop-waits
invariant-loop-waits g l = record {
  marked : Marked g.W.Work.plan l.fn.cluster l.cluster l.fn.worker;
  done : l.waits ≡ false → ((state_of g.W.Work.plan l.cluster).producer l.worker).waiting ≡ [];
  same : l.worker ≡ l.fn.worker;
  within : l.worker ≤ 16;
}

abbrev pub decreases-loop-waits : goal.decreases-loop-waits
decreases-loop-waits g l = length ((state_of g.W.Work.plan l.cluster).producer l.worker).waiting + cond l.waits 1 0
