use Rattle.std.proofs.Common.{◌≡◌, ◌≤◌, ◌+◌}
use Rattle.ks_topo.specs.Topologies.{draft_of}
use Rattle.ks_worker_state.specs.State.{IsWorkerState, LaterState}
use Rattle.ks_worker.specs.Running.{HasCounted, ShowsCalls}
use Rattle.ks_worker.specs.Turns.{TakesTurns}
use Rattle.ks_worker.proofs.worker.Worker.run.Given as goal

-- what `counter` turns leave
abbrev pub invariant-loop : goal.invariant-loop
invariant-loop g l = record {
  placing : l.self.placing ≡ l.fn.self.placing;
  later : LaterState g.W.Work.plan l.fn.self.state l.self.state;
  worker : IsWorkerState g.W.Work.plan (draft_of l.topology) l.self.state;
  counts : HasCounted l.fn.self.state.session.client.gate l.self.state.session.client.gate l.counter;
  stops : l.self.state.session.client.gate.stops ≡ l.fn.self.state.session.client.gate.stops;
  took : l.fn.self.state.session.client.gate.asked + l.fn.self.state.session.client.gate.cuts + l.counter ≤ l.self.state.session.client.gate.asked + l.self.state.session.client.gate.cuts;
  turns : TakesTurns g.W.Work.plan (draft_of l.topology) l.counter l.fn.self l.self;
  shown : ShowsCalls l.fn.self.state.member.number l.fn.self.state.session.client.pass l.self.state.session.client.pass l.fn.self.state.session.client.gate l.self.state.session.client.gate;
}
