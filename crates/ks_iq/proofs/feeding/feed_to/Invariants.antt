use Rattle.std.proofs.Common.{◌≡◌, ◌-◌, []}
use Rattle.ks_shared.specs.Calls.{setup_in}
use Rattle.ks_standby.specs.Replicas.{replica_view}
use Rattle.ks_worker_client.specs.Calls.{Later}
use Rattle.ks_worker_state.specs.Standbys.{IsFedStandby}
use Rattle.ks_iq.proofs.feeding.feed_to.Given as goal

-- it was fed, and follows
abbrev pub invariant-loop-alloc : goal.invariant-loop-alloc
invariant-loop-alloc g l = record {
  later : Later g.W.Work.plan l.fn.pass l.pass;
  made : l.pass.made ≡ l.fn.pass.made;
  fed : IsFedStandby (setup_in g.W.Work.plan l.fn.pass.frame) l.fn.pass.seen l.pass.seen [] l.fn.replica l.replica;
}

abbrev pub decreases-loop-alloc : goal.decreases-loop-alloc
decreases-loop-alloc g l = l.end - (replica_view l.replica).position l.topic
