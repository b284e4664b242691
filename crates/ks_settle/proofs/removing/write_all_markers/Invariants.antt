use Rattle.std.proofs.Common.{◌≡◌}
use Rattle.ks_cluster.specs.View.{state_of}
use Rattle.ks_settle.specs.Drained.{DrainsOn}
use Rattle.ks_settle.proofs.Idling.{AreMarked}
use Rattle.ks_settle.proofs.removing.write_all_markers.Given as goal

-- no marker of those so far waits; the members are the same
abbrev pub invariant-loop-worker : goal.invariant-loop-worker
invariant-loop-worker g l = record {
  marked : AreMarked (state_of g.W.Work.plan l.cluster) l.worker;
  members : (state_of g.W.Work.plan l.cluster).members ≡ (state_of g.W.Work.plan l.fn.cluster).members;
  on : DrainsOn 0 l.fn.cluster l.cluster;
}
