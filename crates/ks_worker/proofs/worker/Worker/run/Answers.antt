use Rattle.std.proofs.Common.{◌≡◌, ◌≤◌, ◌+◌, ◌∙◌, inl, inr, refl, sym, subst, arith}
use Rattle.ks_topo.specs.Topologies.{draft_of}
use Rattle.ks_worker_state.proofs.States.{state_later_twice, same_state}
use Rattle.ks_worker.specs.Running.{ShowsCalls}
use Rattle.ks_worker.proofs.Turning.{counted_none, counted_then, counted_more, shown_none, shown_then, went_on, stopped_then, stopped_once, may_run_on}
use Rattle.ks_worker.proofs.Taken.{one_turn_more}
use Rattle.std.proofs.lemmas.Result.{IfOk-from_err}
use Rattle.ks_worker.proofs.worker.Worker.run.Goals as goal

pub take_turn-requires : goal.take_turn-requires
take_turn-requires g c = record {
  may = may_run_on g.W.Work.plan g.W.Work.good _ _ (draft_of c.args.topology.now) c.args.self.now.placing c.loop.self.placing c.args.turns c.loop.counter 1 c.args.self.now.state c.loop.self.state c.requires.may c.loop.invariant.later c.loop.invariant.placing c.loop.invariant.worker c.loop.invariant.counts
      (omega (arith, c.loop-test.true));
}

pub returns-then-branch-clause-shown : goal.returns-then-branch-clause-shown
returns-then-branch-clause-shown g c =
    shown_then c.args.self.now.state.member.number c.args.self.now.state.session.client.pass c.loop.self.state.session.client.pass c.take_turn.new.self.state.session.client.pass
    c.args.self.now.state.session.client.gate c.loop.self.state.session.client.gate c.take_turn.new.self.state.session.client.gate c.loop.invariant.shown
    (subst (λ n. ShowsCalls n c.loop.self.state.session.client.pass c.take_turn.new.self.state.session.client.pass c.loop.self.state.session.client.gate c.take_turn.new.self.state.session.client.gate) c.loop.invariant.later.number c.in_ok-take_turn.ensures.shown)

pub returns-then-branch-clause-ended : goal.returns-then-branch-clause-ended
returns-then-branch-clause-ended g c =
    stopped_then c.args.turns c.args.self.now.state.session.client.gate c.loop.self.state.session.client.gate c.take_turn.new.self.state.session.client.gate c.in_ok-take_turn.field-0 c.loop.invariant.stops c.in_ok-take_turn.ensures.stops c.if-branch.true

pub loop-preserved : goal.loop-preserved
loop-preserved g c = record {
  placing = c.take_turn.ensures.placing ∙ c.loop.invariant.placing;
  later = state_later_twice g.W.Work.plan c.args.self.now.state c.loop.self.state c.take_turn.new.self.state c.loop.invariant.later c.take_turn.ensures.later;
  worker = c.in_ok-take_turn.ensures.worker;
  counts = counted_then c.args.self.now.state.session.client.gate c.loop.self.state.session.client.gate c.take_turn.new.self.state.session.client.gate c.loop.counter 1 c.loop.invariant.counts c.in_ok-take_turn.ensures.counts;
  stops = went_on c.args.self.now.state.session.client.gate.stops c.loop.self.state.session.client.gate.stops c.take_turn.new.self.state.session.client.gate.stops c.in_ok-take_turn.field-0 c.loop.invariant.stops c.in_ok-take_turn.ensures.stops c.if-branch.false;
  took = omega (arith, c.loop.invariant.took, c.in_ok-take_turn.ensures.took);
  turns = one_turn_more g.W.Work.plan (draft_of c.args.topology.now) c.loop.counter c.args.self.now c.loop.self c.take_turn.new.self c.loop.invariant.turns c.in_ok-take_turn.ensures.turn;
  shown = shown_then c.args.self.now.state.member.number c.args.self.now.state.session.client.pass c.loop.self.state.session.client.pass c.take_turn.new.self.state.session.client.pass
      c.args.self.now.state.session.client.gate c.loop.self.state.session.client.gate c.take_turn.new.self.state.session.client.gate c.loop.invariant.shown
      (subst (λ n. ShowsCalls n c.loop.self.state.session.client.pass c.take_turn.new.self.state.session.client.pass c.loop.self.state.session.client.gate c.take_turn.new.self.state.session.client.gate) c.loop.invariant.later.number c.in_ok-take_turn.ensures.shown);
}

pub returns-then-branch-clause-turns : goal.returns-then-branch-clause-turns
returns-then-branch-clause-turns g c = record {
  count = c.loop.counter + 1;
  few = omega (arith, c.loop-test.true);
  taken = one_turn_more g.W.Work.plan (draft_of c.args.topology.now) c.loop.counter c.args.self.now c.loop.self c.take_turn.new.self c.loop.invariant.turns c.in_ok-take_turn.ensures.turn;
  ended = inr (stopped_once c.args.self.now.state.session.client.gate.stops c.loop.self.state.session.client.gate.stops c.take_turn.new.self.state.session.client.gate.stops c.in_ok-take_turn.field-0 c.loop.invariant.stops c.in_ok-take_turn.ensures.stops c.if-branch.true);
}

pub returns-clause-turns : goal.returns-clause-turns
returns-clause-turns g c = record {
  count = c.loop.counter;
  few = omega (arith, c.loop.auto.counter-end);
  taken = c.loop.invariant.turns;
  ended = inl (omega (arith, c.loop-test.false, c.loop.auto.counter-end));
}

pub loop-init : goal.loop-init
loop-init g c = record {
  placing = refl;
  later = same_state g.W.Work.plan c.args.shared.now.growing.id c.args.self.now.state c.requires.may.act.call;
  worker = c.requires.may.act.worker;
  counts = counted_none c.args.self.now.state.session.client.gate;
  stops = refl;
  took = omega arith;
  turns = refl;
  shown = shown_none c.args.self.now.state.member.number c.args.self.now.state.session.client.pass c.args.self.now.state.session.client.gate;
}

pub returns-in_err-take_turn-clause-placing : goal.returns-in_err-take_turn-clause-placing
returns-in_err-take_turn-clause-placing g c = c.take_turn.ensures.placing ∙ c.loop.invariant.placing

pub returns-in_err-take_turn-clause-later : goal.returns-in_err-take_turn-clause-later
returns-in_err-take_turn-clause-later g c = state_later_twice g.W.Work.plan c.args.self.now.state c.loop.self.state c.take_turn.new.self.state c.loop.invariant.later c.take_turn.ensures.later

pub returns-then-branch-clause-placing : goal.returns-then-branch-clause-placing
returns-then-branch-clause-placing g c = c.take_turn.ensures.placing ∙ c.loop.invariant.placing

pub returns-then-branch-clause-later : goal.returns-then-branch-clause-later
returns-then-branch-clause-later g c = state_later_twice g.W.Work.plan c.args.self.now.state c.loop.self.state c.take_turn.new.self.state c.loop.invariant.later c.take_turn.ensures.later

pub returns-in_err-take_turn-clause-worker : goal.returns-in_err-take_turn-clause-worker
returns-in_err-take_turn-clause-worker g c = IfOk-from_err c.from_residual.result _ c.from_residual.ensures.0

pub returns-in_err-take_turn-clause-turns : goal.returns-in_err-take_turn-clause-turns
returns-in_err-take_turn-clause-turns g c = IfOk-from_err c.from_residual.result _ c.from_residual.ensures.0

pub returns-in_err-take_turn-clause-counts : goal.returns-in_err-take_turn-clause-counts
returns-in_err-take_turn-clause-counts g c = IfOk-from_err c.from_residual.result _ c.from_residual.ensures.0

pub returns-in_err-take_turn-clause-ended : goal.returns-in_err-take_turn-clause-ended
returns-in_err-take_turn-clause-ended g c = IfOk-from_err c.from_residual.result _ c.from_residual.ensures.0

pub returns-in_err-take_turn-clause-shown : goal.returns-in_err-take_turn-clause-shown
returns-in_err-take_turn-clause-shown g c = IfOk-from_err c.from_residual.result _ c.from_residual.ensures.0

pub returns-then-branch-clause-worker : goal.returns-then-branch-clause-worker
returns-then-branch-clause-worker g c = c.in_ok-take_turn.ensures.worker

pub returns-then-branch-clause-counts : goal.returns-then-branch-clause-counts
returns-then-branch-clause-counts g c =
    counted_more c.args.self.now.state.session.client.gate c.take_turn.new.self.state.session.client.gate (c.loop.counter + 1) c.args.turns
    (counted_then c.args.self.now.state.session.client.gate c.loop.self.state.session.client.gate c.take_turn.new.self.state.session.client.gate c.loop.counter 1 c.loop.invariant.counts c.in_ok-take_turn.ensures.counts) (omega (arith, c.loop-test.true))

pub returns-clause-counts : goal.returns-clause-counts
returns-clause-counts g c = counted_more c.args.self.now.state.session.client.gate c.loop.self.state.session.client.gate c.loop.counter c.args.turns c.loop.invariant.counts (omega (arith, c.loop.auto.counter-end))

pub returns-clause-ended : goal.returns-clause-ended
returns-clause-ended g c = inr (c.loop.invariant.stops, omega (arith, c.loop.invariant.took, c.loop-test.false, c.loop.auto.counter-end))

pub returns-clause-shown : goal.returns-clause-shown
returns-clause-shown g c = c.loop.invariant.shown
