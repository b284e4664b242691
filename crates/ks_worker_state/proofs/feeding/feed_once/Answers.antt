use Rattle.std.proofs.Common.{refl, sym, subst, ◌∙◌}
use Rattle.std.proofs.lemmas.List.{take_all}
use Rattle.ks_shared.specs.Calls.{setup_in}
use Rattle.ks_worker_client.proofs.Halting.{same_counts}
use Rattle.ks_worker_client.proofs.Moments.{may_later, later_twice, not_later}
use Rattle.ks_standby.specs.Replicas.{replica_view}
use Rattle.ks_worker_state.specs.Standbys.{IsFedStandby, HasMoved, HasReadStable}
use Rattle.ks_worker_state.proofs.Fed.{own_topic, standby_at, not_fed, fed_more, one_more_topic, moves_more, read_more}
use Rattle.std.proofs.lemmas.Result.{IfOk-from_err}
use Rattle.ks_worker_state.proofs.Exits.{counts_out, counts_none}
use Rattle.ks_worker_state.proofs.feeding.feed_once.Goals as goal

pub feed_from-requires-clause-may : goal.feed_from-requires-clause-may
feed_from-requires-clause-may g c = may_later g.W.Work.plan _ _ _ _ _ c.loop-i.invariant.later c.loop-i.invariant.gate c.requires.may

pub feed_from-requires-clause-standby : goal.feed_from-requires-clause-standby
feed_from-requires-clause-standby g c = standby_at g.W.Work.plan _ _ c.loop-i.client.pass c.loop-i.invariant.later _ c.loop-i.invariant.fed.standby

pub feed_from-requires-clause-topic : goal.feed_from-requires-clause-topic
feed_from-requires-clause-topic g c = own_topic c.args.replica.now c.loop-i.replica c.args.changelogs.now c.loop-i.i c.loop-i-test.true c.requires.changelogs c.loop-i.invariant.fed.changelogs

pub loop-i-init : goal.loop-i-init
loop-i-init g c = record {
  later = not_later g.W.Work.plan c.args.client.now.pass c.requires.may.history;
  made = refl;
  gate = refl;
  fed = not_fed g.W.Work.plan _ _ c.args.client.now.pass (not_later g.W.Work.plan c.args.client.now.pass c.requires.may.history) c.args.replica.now c.requires.may.network c.requires.standby;
  moves = λ e. absurd cc;
  stops = λ e u none. absurd cc;
}

pub loop-i-preserved : goal.loop-i-preserved
loop-i-preserved g c = record {
  later = later_twice g.W.Work.plan _ _ _ c.loop-i.invariant.later c.feed_from.ensures.later;
  made = c.feed_from.ensures.made ∙ c.loop-i.invariant.made;
  gate = same_counts _ _ c.feed_from.result c.in_ok-moves.moves c.in_ok-moves.was c.feed_from.ensures.gate ∙ c.loop-i.invariant.gate;
  fed = subst (λ l. IsFedStandby (setup_in g.W.Work.plan c.args.client.now.pass.frame) c.args.client.now.pass.seen c.feed_from.new.client.pass.seen l c.args.replica.now c.feed_from.new.replica)
      (one_more_topic c.args.changelogs.now c.loop-i.i c.loop-i-test.true)
      (fed_more g.W.Work.plan _ _ _ c.loop-i.invariant.later c.feed_from.ensures.later c.requires.may.network _ _ _ _ _ c.loop-i.invariant.fed c.in_ok-moves.ensures.fed);
  moves = λ e. subst (λ l. HasMoved l (replica_view c.args.replica.now) (replica_view c.feed_from.new.replica)) (one_more_topic c.args.changelogs.now c.loop-i.i c.loop-i-test.true)
      (moves_more (replica_view c.args.replica.now) (replica_view c.loop-i.replica) (replica_view c.feed_from.new.replica) _ _ c.loop-i.moved c.in_ok-moves.moves (sym c.is_either-moved.ensures ∙ e)
      c.loop-i.invariant.moves c.in_ok-moves.ensures.moves c.loop-i.invariant.fed.fed.later c.in_ok-moves.ensures.fed.fed.later);
  stops = λ e. subst (λ l. HasReadStable (setup_in g.W.Work.plan c.args.client.now.pass.frame) c.args.client.now.pass.seen l (replica_view c.feed_from.new.replica))
      (one_more_topic c.args.changelogs.now c.loop-i.i c.loop-i-test.true)
      (read_more g.W.Work.plan c.args.client.now.pass c.loop-i.client.pass c.loop-i.invariant.later c.requires.may.network c.loop-i.replica c.feed_from.new.replica _ _ c.loop-i.moved c.in_ok-moves.moves (sym c.is_either-moved.ensures ∙ e)
      c.loop-i.invariant.stops c.in_ok-moves.ensures.fed.fed c.in_ok-moves.ensures.stops);
}

pub returns-clause-moves : goal.returns-clause-moves
returns-clause-moves g c = λ e.
    subst (λ l. HasMoved l (replica_view c.args.replica.now) (replica_view c.loop-i.replica)) (take_all c.loop-i.i c.args.changelogs.now c.loop-i-test.false)
    (c.loop-i.invariant.moves e)

pub returns-clause-stops : goal.returns-clause-stops
returns-clause-stops g c = λ e.
    subst (λ l. HasReadStable (setup_in g.W.Work.plan c.args.client.now.pass.frame) c.args.client.now.pass.seen l (replica_view c.loop-i.replica)) (take_all c.loop-i.i c.args.changelogs.now c.loop-i-test.false)
    (c.loop-i.invariant.stops e)

pub returns-in_err-moves-clause-gate : goal.returns-in_err-moves-clause-gate
returns-in_err-moves-clause-gate g c = counts_out _ _ _ c.feed_from.result c.from_residual.result c.in_err-moves.field-0.0 c.loop-i.invariant.gate c.in_err-moves.was c.feed_from.ensures.gate c.from_residual.ensures.1

pub returns-in_err-moves-clause-later : goal.returns-in_err-moves-clause-later
returns-in_err-moves-clause-later g c = later_twice g.W.Work.plan _ _ _ c.loop-i.invariant.later c.feed_from.ensures.later

pub returns-in_err-moves-clause-fed : goal.returns-in_err-moves-clause-fed
returns-in_err-moves-clause-fed g c = IfOk-from_err c.from_residual.result _ c.from_residual.ensures.0

pub returns-in_err-moves-clause-moves : goal.returns-in_err-moves-clause-moves
returns-in_err-moves-clause-moves g c = IfOk-from_err c.from_residual.result _ c.from_residual.ensures.0

pub returns-in_err-moves-clause-stops : goal.returns-in_err-moves-clause-stops
returns-in_err-moves-clause-stops g c = IfOk-from_err c.from_residual.result _ c.from_residual.ensures.0

pub returns-clause-gate : goal.returns-clause-gate
returns-clause-gate g c = counts_none _ _ c.loop-i.invariant.gate
