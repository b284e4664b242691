use Rattle.std.proofs.Common.{refl, ◌∙◌}
use Rattle.ks_topo.specs.Topologies.{draft_of}
use Rattle.ks_worker_client.proofs.Halting.{same_counts}
use Rattle.ks_worker_state.proofs.States.{may_act_on, same_state, state_later_twice}
use Rattle.ks_worker_turn.proofs.Placed.{known_later}
use Rattle.ks_worker_client.proofs.Moments.{not_later}
use Rattle.ks_worker_turn.proofs.Requests.{turn_none, turn_then}
use Rattle.ks_worker_turn.proofs.Taken.{placed_start, placed_next, placed_whole}
use Rattle.ks_worker_turn.proofs.Activated.{restored_start, restored_next, restored_whole, tasks_on}
use Rattle.ks_worker_turn.proofs.Listing.{among_itself}
use Rattle.ks_worker_turn.proofs.taking.take_all.Goals as goal

pub take_assigned-requires-clause-may : goal.take_assigned-requires-clause-may
take_assigned-requires-clause-may g c =
    may_act_on g.W.Work.plan g.H.Hash128.hash_of _ (draft_of c.args.topology.now) c.args.state.now c.loop-i.state c.requires.may c.loop-i.invariant.later c.loop-i.invariant.gate c.loop-i.invariant.worker

pub take_assigned-requires-clause-task : goal.take_assigned-requires-clause-task
take_assigned-requires-clause-task g c =
    known_later g.W.Work.plan g.H.Hash128.hash_of (draft_of c.args.topology.now) c.args.state.now.session.client.pass c.loop-i.state.session.client.pass c.tasks-tasks.result.now c.loop-i.i _ c.loop-i.invariant.later.later c.requires.may.topology
    c.tasks-tasks.ensures c.loop-i-test.true

pub loop-i-init : goal.loop-i-init
loop-i-init g c = record {
  later = same_state g.W.Work.plan _ c.args.state.now c.requires.may.call;
  gate = refl;
  worker = c.requires.may.worker;
  member = refl;
  made = turn_none g.W.Work.plan c.args.state.now c.args.state.now (not_later g.W.Work.plan c.args.state.now.session.client.pass c.requires.may.call.history) refl;
  held = placed_start c.args.assignment.now c.args.state.now.member.number c.args.state.now;
  kept = among_itself c.args.state.now.tasks.items;
  restored = restored_start g.W.Work.plan c.args.state.now c.args.assignment.now;
}

pub loop-i-preserved : goal.loop-i-preserved
loop-i-preserved g c = record {
  later = state_later_twice g.W.Work.plan c.args.state.now c.loop-i.state c.take_assigned.new.state c.loop-i.invariant.later c.take_assigned.ensures.later;
  gate = same_counts _ _ c.take_assigned.result c.in_ok-take_assigned.field-0 c.in_ok-take_assigned.was c.take_assigned.ensures.gate ∙ c.loop-i.invariant.gate;
  worker = c.in_ok-take_assigned.ensures.worker;
  made = turn_then g.W.Work.plan c.args.state.now c.loop-i.state c.take_assigned.new.state c.loop-i.invariant.later c.loop-i.invariant.made c.in_ok-take_assigned.ensures.made;
  held = placed_next g.W.Work.plan c.args.state.now c.loop-i.state c.take_assigned.new.state c.args.assignment.now c.tasks-tasks.result.now c.loop-i.i _ c.loop-i-test.true c.loop-i.invariant.later c.loop-i.invariant.held c.in_ok-take_assigned.ensures.held;
  member = c.take_assigned.ensures.member ∙ c.loop-i.invariant.member;
  kept = tasks_on g.W.Work.plan c.args.state.now c.loop-i.state c.take_assigned.new.state c.loop-i.invariant.kept c.in_ok-take_assigned.ensures.kept;
  restored = restored_next g.W.Work.plan c.args.state.now c.loop-i.state c.take_assigned.new.state c.args.assignment.now c.tasks-tasks.result.now c.loop-i.i _ c.loop-i-test.true c.loop-i.invariant.later.later c.take_assigned.ensures.later.later
      c.loop-i.invariant.member c.take_assigned.ensures.member c.in_ok-take_assigned.ensures.kept c.loop-i.invariant.restored c.in_ok-take_assigned.ensures.restored;
}

pub returns-clause-held : goal.returns-clause-held
returns-clause-held g c = placed_whole g.W.Work.plan c.args.state.now c.loop-i.state c.args.assignment.now c.tasks-tasks.result.now _ c.loop-i.i c.tasks-tasks.ensures c.loop-i-test.false c.loop-i.invariant.held

pub returns-clause-restored : goal.returns-clause-restored
returns-clause-restored g c = restored_whole g.W.Work.plan c.args.state.now c.loop-i.state c.args.assignment.now c.tasks-tasks.result.now _ c.loop-i.i c.tasks-tasks.ensures c.loop-i-test.false c.loop-i.invariant.restored
