use Rattle.ks_cluster.specs.View.{state_of}
use Rattle.ks_settle.specs.Drained.{DrainsOn}
use Rattle.ks_settle.proofs.Idling.{AreDecided}
use Rattle.ks_settle.proofs.Members.{AreGone}
use Rattle.ks_settle.proofs.removing.remove_workers.Given as goal

-- those so far have nothing undecided, and are no members
abbrev pub invariant-loop-worker : goal.invariant-loop-worker
invariant-loop-worker g l = record {
  decided : AreDecided (state_of g.W.Work.plan l.cluster) l.worker;
  gone : AreGone (state_of g.W.Work.plan l.cluster) l.worker;
  on : DrainsOn 0 l.fn.cluster l.cluster;
}
