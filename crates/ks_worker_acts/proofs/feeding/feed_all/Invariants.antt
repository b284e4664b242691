use Rattle.std.proofs.Common.{◌≡◌}
use Rattle.ks_topo.specs.Topologies.{draft_of}
use Rattle.ks_shared.specs.Calls.{setup_in}
use Rattle.ks_worker_state.specs.State.{LaterState, KnowsTheSame, IsWorkerState}
use Rattle.ks_worker_acts.proofs.FedReplicas.{AreFedTo}
use Rattle.ks_worker_acts.proofs.feeding.feed_all.Given as goal

-- the replicas so far were fed
abbrev pub invariant-loop-i : goal.invariant-loop-i
invariant-loop-i g l = record {
  later : LaterState g.W.Work.plan l.fn.state l.state;
  gate : l.state.session.client.gate ≡ l.fn.state.session.client.gate;
  made : l.state.session.client.pass.made ≡ l.fn.state.session.client.pass.made;
  same : KnowsTheSame l.fn.state l.state;
  tasks : l.state.tasks ≡ l.fn.state.tasks;
  worker : IsWorkerState g.W.Work.plan (draft_of l.topology) l.state;
  fed : AreFedTo (setup_in g.W.Work.plan l.fn.state.session.client.pass.frame) l.fn.state.session.client.pass.seen l.i l.fn.state.replicas.items l.state.replicas.items;
}
