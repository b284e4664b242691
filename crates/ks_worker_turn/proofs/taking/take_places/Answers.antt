use Rattle.ks_topo.specs.Topologies.{draft_of}
use Rattle.ks_worker_client.proofs.Halting.{same_counts}
use Rattle.ks_worker_state.proofs.States.{may_act_on, state_later_twice}
use Rattle.std.proofs.Common.{ap}
use Rattle.std.proofs.lemmas.Result.{on_ok_weaker}
use Rattle.ks_history.specs.State.{Setup}
use Rattle.ks_shared.specs.Calls.{setup_in}
use Rattle.ks_worker_turn.proofs.Requests.{turn_then}
use Rattle.ks_worker_turn.proofs.Taken.{taken_places}
use Rattle.ks_worker_turn.proofs.Activated.{all_since}
use Rattle.ks_worker_turn.proofs.Listing.{among_from}
use Rattle.ks_worker_client.specs.declared.member.Member.{Member}
use Rattle.ks_worker_turn.proofs.taking.take_places.Goals as goal

pub take_missing-requires : goal.take_missing-requires
take_missing-requires g c = record {
  may = may_act_on g.W.Work.plan g.H.Hash128.hash_of _ (draft_of c.args.topology.now) c.args.state.now c.enter_generation.new.state c.requires.may c.enter_generation.ensures.later
      (same_counts _ _ c.enter_generation.result c.in_ok-enter_generation.field-0 c.in_ok-enter_generation.was c.enter_generation.ensures.gate) c.in_ok-enter_generation.ensures.worker;
}

pub returns-clause-later : goal.returns-clause-later
returns-clause-later g c = state_later_twice g.W.Work.plan c.args.state.now c.enter_generation.new.state c.take_missing.new.state c.enter_generation.ensures.later c.take_missing.ensures.later

pub returns-clause-made : goal.returns-clause-made
returns-clause-made g c =
    on_ok_weaker c.take_missing.result (λ h. turn_then g.W.Work.plan c.args.state.now c.enter_generation.new.state c.take_missing.new.state c.enter_generation.ensures.later c.in_ok-enter_generation.ensures.made h) c.take_missing.ensures.made

pub returns-clause-taken : goal.returns-clause-taken
returns-clause-taken g c =
    let s = c.args.state.now in
    on_ok_weaker c.take_missing.result
    (λ h. taken_places g.W.Work.plan (setup_in g.W.Work.plan s.session.client.pass.frame) s.session.client.pass.seen _ c.args.generation c.args.assignment.now s c.enter_generation.new.state c.take_missing.new.state
    c.requires.may.worker.replicas_are (ap (λ (x : Setup). x.tasks) c.requires.may.topology.setup_is) c.requires.rested c.enter_generation.ensures.tasks c.enter_generation.ensures.later c.take_missing.ensures.later.later
    c.in_ok-enter_generation.ensures.parked h)
    c.take_missing.ensures.held

pub returns-clause-restored : goal.returns-clause-restored
returns-clause-restored g c =
    let s = c.args.state.now in
    on_ok_weaker c.take_missing.result
    (λ h. all_since g.W.Work.plan s c.enter_generation.new.state c.take_missing.new.state c.args.assignment.now _ c.enter_generation.ensures.later.later
    (ap (λ (m : Member). m.number) c.in_ok-enter_generation.ensures.member) (ap (λ (m : Member). m.is_member) c.in_ok-enter_generation.ensures.member) h)
    c.take_missing.ensures.restored

pub returns-clause-kept : goal.returns-clause-kept
returns-clause-kept g c =
    on_ok_weaker c.take_missing.result (among_from c.args.state.now.tasks.items c.enter_generation.new.state.tasks.items c.take_missing.new.state.tasks.items c.enter_generation.ensures.tasks) c.take_missing.ensures.kept
