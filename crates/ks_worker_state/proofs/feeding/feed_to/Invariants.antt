use Rattle.std.proofs.Common.{◌≡◌, []}
use Rattle.ks_shared.specs.Calls.{setup_in}
use Rattle.ks_worker_client.specs.Calls.{Later}
use Rattle.ks_worker_state.specs.Standbys.{IsFedStandby}
use Rattle.ks_worker_state.proofs.feeding.feed_to.Given as goal

-- it was fed, and follows
abbrev pub invariant-loop : goal.invariant-loop
invariant-loop g l = record {
  later : Later g.W.Work.plan l.fn.client.pass l.client.pass;
  made : l.client.pass.made ≡ l.fn.client.pass.made;
  gate : l.client.gate ≡ l.fn.client.gate;
  fed : IsFedStandby (setup_in g.W.Work.plan l.fn.client.pass.frame) l.fn.client.pass.seen l.client.pass.seen [] l.fn.replica l.replica;
}
