use Rattle.std.proofs.Common.{◌≡◌}
use Rattle.ks_worker_client.specs.Calls.{Later}
use Rattle.ks_worker_acts.specs.Feeds.{marks_to}
use Rattle.ks_worker_state.specs.Gained.{HasMade}
use Rattle.ks_worker_acts.proofs.feeding.write_waiting.Given as goal

-- the producers so far had a marker written
abbrev pub invariant-loop-w : goal.invariant-loop-w
invariant-loop-w g l = record {
  later : Later g.W.Work.plan l.fn.client.pass l.client.pass;
  gate : l.client.gate ≡ l.fn.client.gate;
  marked : HasMade l.fn.client.pass l.client.pass (marks_to l.w);
}
