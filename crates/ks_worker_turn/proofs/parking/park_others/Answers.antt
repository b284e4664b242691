use Rattle.std.proofs.Common.{refl, ◌∙◌}
use Rattle.ks_topo.specs.Topologies.{draft_of}
use Rattle.ks_worker_client.proofs.Halting.{same_counts}
use Rattle.ks_worker_state.proofs.States.{may_act_on, same_state, state_later_twice}
use Rattle.ks_worker_client.proofs.Moments.{not_later}
use Rattle.ks_worker_turn.proofs.Holding.{parked_start, parked_next, parked_whole}
use Rattle.ks_worker_turn.proofs.Requests.{turn_none, turn_then}
use Rattle.ks_worker_turn.proofs.parking.park_others.Goals as goal

pub park_unplaced-requires : goal.park_unplaced-requires
park_unplaced-requires g c =
    may_act_on g.W.Work.plan g.H.Hash128.hash_of _ (draft_of c.args.topology.now) c.args.state.now c.loop-i.state c.requires c.loop-i.invariant.later c.loop-i.invariant.gate c.loop-i.invariant.worker

pub loop-i-init : goal.loop-i-init
loop-i-init g c = record {
  later = same_state g.W.Work.plan _ c.args.state.now c.requires.call;
  gate = refl;
  worker = c.requires.worker;
  member = refl;
  made = turn_none g.W.Work.plan c.args.state.now c.args.state.now (not_later g.W.Work.plan c.args.state.now.session.client.pass c.requires.call.history) refl;
  parked = parked_start g.W.Work.plan c.args.state.now.member.instance c.args.assignment.now c.args.state.now.member.number c.args.state.now.session.client.pass c.args.state.now.session.client.pass c.args.state.now.replicas.items;
  tasks = refl;
}

pub loop-i-preserved : goal.loop-i-preserved
loop-i-preserved g c = record {
  later = state_later_twice g.W.Work.plan c.args.state.now c.loop-i.state c.park_unplaced.new.state c.loop-i.invariant.later c.park_unplaced.ensures.later;
  gate = same_counts _ _ c.park_unplaced.result c.in_ok-park_unplaced.field-0 c.in_ok-park_unplaced.was c.park_unplaced.ensures.gate ∙ c.loop-i.invariant.gate;
  worker = c.in_ok-park_unplaced.ensures.worker;
  member = c.park_unplaced.ensures.member ∙ c.loop-i.invariant.member;
  made = turn_then g.W.Work.plan c.args.state.now c.loop-i.state c.park_unplaced.new.state c.loop-i.invariant.later c.loop-i.invariant.made c.in_ok-park_unplaced.ensures.made;
  parked = parked_next g.W.Work.plan c.args.state.now c.loop-i.state c.park_unplaced.new.state c.args.assignment.now c.tasks-tasks.result.now c.loop-i.i _ c.loop-i-test.true c.loop-i.invariant.later c.park_unplaced.ensures.later c.loop-i.invariant.parked
      c.in_ok-park_unplaced.ensures.parked;
  tasks = c.park_unplaced.ensures.tasks ∙ c.loop-i.invariant.tasks;
}

pub returns-clause-parked : goal.returns-clause-parked
returns-clause-parked g c =
    let s = c.args.state.now in
    let n = c.loop-i.state in
    parked_whole s.member.number s.member.instance c.args.assignment.now c.tasks-tasks.result.now _ c.loop-i.i s.session.client.pass n.session.client.pass s.replicas.items n.replicas.items c.tasks-tasks.ensures c.loop-i-test.false c.loop-i.invariant.parked
