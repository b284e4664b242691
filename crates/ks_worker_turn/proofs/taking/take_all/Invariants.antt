use Rattle.std.proofs.Common.{◌≡◌, take}
use Rattle.ks_topo.specs.Topologies.{draft_of}
use Rattle.ks_worker_state.specs.State.{IsWorkerState, LaterState}
use Rattle.ks_worker_turn.specs.Held.{HoldsPlaced}
use Rattle.ks_worker_turn.specs.Requests.{MakesTurn}
use Rattle.ks_worker_turn.specs.Restored.{KeepsTasks, HasRestored}
use Rattle.ks_worker_turn.proofs.taking.take_all.Given as goal

-- a later moment, nothing was cut off, and the worker is one
abbrev pub invariant-loop-i : goal.invariant-loop-i
invariant-loop-i g l = record {
  later : LaterState g.W.Work.plan l.fn.state l.state;
  gate : l.state.session.client.gate ≡ l.fn.state.session.client.gate;
  worker : IsWorkerState g.W.Work.plan (draft_of l.topology) l.state;
  member : l.state.member ≡ l.fn.state.member;
  made : MakesTurn l.fn.state l.state;
  held : HoldsPlaced l.assignment l.fn.state.member.number (take l.i l.tasks) l.fn.state l.state;
  kept : KeepsTasks l.fn.state l.state;
  restored : HasRestored g.W.Work.plan l.assignment (take l.i l.tasks) l.fn.state l.state;
}
