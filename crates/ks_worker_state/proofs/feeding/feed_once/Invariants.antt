use Rattle.std.proofs.Common.{◌≡◌, true, false, take}
use Rattle.ks_shared.specs.Calls.{setup_in}
use Rattle.ks_worker_client.specs.Calls.{Later}
use Rattle.ks_standby.specs.Replicas.{replica_view}
use Rattle.ks_worker_state.specs.Standbys.{IsFedStandby, HasMoved, HasReadStable}
use Rattle.ks_worker_state.proofs.feeding.feed_once.Given as goal

-- the changelogs so far were fed from; one of them moved it, or nothing stable is left of them
abbrev pub invariant-loop-i : goal.invariant-loop-i
invariant-loop-i g l = record {
  later : Later g.W.Work.plan l.fn.client.pass l.client.pass;
  made : l.client.pass.made ≡ l.fn.client.pass.made;
  gate : l.client.gate ≡ l.fn.client.gate;
  fed : IsFedStandby (setup_in g.W.Work.plan l.fn.client.pass.frame) l.fn.client.pass.seen l.client.pass.seen (take l.i l.changelogs) l.fn.replica l.replica;
  moves : l.moved ≡ true → HasMoved (take l.i l.changelogs) (replica_view l.fn.replica) (replica_view l.replica);
  stops : l.moved ≡ false → HasReadStable (setup_in g.W.Work.plan l.fn.client.pass.frame) l.fn.client.pass.seen (take l.i l.changelogs) (replica_view l.replica);
}
