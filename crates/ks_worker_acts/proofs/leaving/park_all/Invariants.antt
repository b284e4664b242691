use Rattle.std.proofs.Common.{◌≡◌}
use Rattle.std.specs.List.{All}
use Rattle.std.specs.Vec.Iter.{into_iter_items, into_iter_len}
use Rattle.ks_shared.specs.Calls.{setup_in}
use Rattle.ks_worker_client.specs.Calls.{Later}
use Rattle.ks_worker_state.specs.Standbys.{IsStandby}
use Rattle.ks_worker_acts.proofs.Leavers.{HasParked}
use Rattle.ks_worker_acts.proofs.leaving.park_all.Given as goal

-- the replicas so far were parked, and those that are left follow
abbrev pub invariant-loop-replica : goal.invariant-loop-replica
invariant-loop-replica g l = record {
  later : Later g.W.Work.plan l.fn.client.pass l.client.pass;
  gate : l.client.gate ≡ l.fn.client.gate;
  standbys : All (IsStandby (setup_in g.W.Work.plan l.client.pass.frame) l.client.pass.seen) (into_iter_items l.rest);
  parked : HasParked l.fn.client.pass l.client.pass l.instance (into_iter_items l.rest) l.fn.replicas.items;
}

abbrev pub decreases-loop-replica : goal.decreases-loop-replica
decreases-loop-replica g l = into_iter_len l.rest
