use Rattle.std.proofs.Common.{◌≡◌, false, take}
use Rattle.ks_topo.specs.Topologies.{draft_of}
use Rattle.ks_shared.specs.Calls.{setup_in}
use Rattle.ks_worker_state.specs.State.{LaterState, KnowsTheSame, IsWorkerState}
use Rattle.ks_worker_acts.specs.Inputs.{HasLooked}
use Rattle.ks_worker_acts.proofs.reading.read_first.Given as goal

-- nothing moved so far
abbrev pub invariant-loop-i : goal.invariant-loop-i
invariant-loop-i g l = record {
  later : LaterState g.W.Work.plan l.fn.state l.state;
  gate : l.state.session.client.gate ≡ l.fn.state.session.client.gate;
  made : l.state.session.client.pass.made ≡ l.fn.state.session.client.pass.made;
  same : KnowsTheSame l.fn.state l.state;
  replicas : l.state.replicas ≡ l.fn.state.replicas;
  worker : IsWorkerState g.W.Work.plan (draft_of l.topology) l.state;
  looked : HasLooked (setup_in g.W.Work.plan l.fn.state.session.client.pass.frame) l.fn.state.session.client.pass.seen false (take l.i l.places) l.fn.state.tasks.items l.state.tasks.items;
}
