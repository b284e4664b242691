use Rattle.std.proofs.Common.{[], ◌∷◌, inl, inr, refl, sym, ap, subst, ◌∙◌}
use Rattle.ks_history.specs.Machine.{has_topic}
use Rattle.ks_worker_client.proofs.Halting.{same_counts}
use Rattle.ks_worker_client.proofs.Moments.{may_later, later_twice, not_later}
use Rattle.ks_worker_state.proofs.Fed.{standby_at, not_fed, fed_on, read_since}
use Rattle.ks_standby.specs.Replicas.{replica_view}
use Rattle.std.proofs.lemmas.Result.{IfOk-from_err}
use Rattle.ks_worker_state.proofs.Exits.{counts_out, counts_in, counts_none}
use Rattle.ks_worker_state.proofs.feeding.feed_to.Goals as goal

pub feed_from-requires-clause-may : goal.feed_from-requires-clause-may
feed_from-requires-clause-may g c = may_later g.W.Work.plan _ _ _ _ _ c.loop.invariant.later c.loop.invariant.gate c.requires.may

pub feed_from-requires-clause-standby : goal.feed_from-requires-clause-standby
feed_from-requires-clause-standby g c = standby_at g.W.Work.plan _ _ c.loop.client.pass c.loop.invariant.later _ c.loop.invariant.fed.standby

pub feed_from-requires-clause-topic : goal.feed_from-requires-clause-topic
feed_from-requires-clause-topic g c = ap (has_topic c.args.topic) c.loop.invariant.fed.changelogs ∙ c.requires.topic

pub loop-init : goal.loop-init
loop-init g c = record {
  later = not_later g.W.Work.plan c.args.client.now.pass c.requires.may.history;
  made = refl;
  gate = refl;
  fed = not_fed g.W.Work.plan _ _ c.args.client.now.pass (not_later g.W.Work.plan c.args.client.now.pass c.requires.may.history) c.args.replica.now c.requires.may.network c.requires.standby;
}

pub loop-preserved : goal.loop-preserved
loop-preserved g c = record {
  later = later_twice g.W.Work.plan _ _ _ c.loop.invariant.later c.feed_from.ensures.later;
  made = c.feed_from.ensures.made ∙ c.loop.invariant.made;
  gate = same_counts _ _ c.feed_from.result c.in_ok-feed_from.field-0 c.in_ok-feed_from.was c.feed_from.ensures.gate ∙ c.loop.invariant.gate;
  fed = fed_on g.W.Work.plan _ _ _ c.loop.invariant.later c.feed_from.ensures.later c.requires.may.network _ _ _ [] (c.args.topic ∷ []) c.loop.invariant.fed c.in_ok-feed_from.ensures.fed;
}

pub returns-then-not-branch-clause-fed : goal.returns-then-not-branch-clause-fed
returns-then-not-branch-clause-fed g c = fed_on g.W.Work.plan _ _ _ c.loop.invariant.later c.feed_from.ensures.later c.requires.may.network _ _ _ [] (c.args.topic ∷ []) c.loop.invariant.fed c.in_ok-feed_from.ensures.fed

pub returns-then-not-branch-clause-stops : goal.returns-then-not-branch-clause-stops
returns-then-not-branch-clause-stops g c =
    inr (read_since g.W.Work.plan c.args.client.now.pass c.loop.client.pass c.loop.invariant.later c.requires.may.network (c.args.topic ∷ []) (replica_view c.feed_from.new.replica) (c.in_ok-feed_from.ensures.stops c.if-not-branch.true))

pub returns-then-end-position-clause-gate : goal.returns-then-end-position-clause-gate
returns-then-end-position-clause-gate g c = counts_none _ _ c.loop.invariant.gate

pub returns-in_err-feed_from-clause-gate : goal.returns-in_err-feed_from-clause-gate
returns-in_err-feed_from-clause-gate g c = counts_out _ _ _ c.feed_from.result c.from_residual.result c.in_err-feed_from.field-0.0 c.loop.invariant.gate c.in_err-feed_from.was c.feed_from.ensures.gate c.from_residual.ensures.1

pub returns-in_err-feed_from-clause-later : goal.returns-in_err-feed_from-clause-later
returns-in_err-feed_from-clause-later g c = later_twice g.W.Work.plan _ _ _ c.loop.invariant.later c.feed_from.ensures.later

pub returns-in_err-feed_from-clause-fed : goal.returns-in_err-feed_from-clause-fed
returns-in_err-feed_from-clause-fed g c = IfOk-from_err c.from_residual.result _ c.from_residual.ensures.0

pub returns-in_err-feed_from-clause-stops : goal.returns-in_err-feed_from-clause-stops
returns-in_err-feed_from-clause-stops g c = IfOk-from_err c.from_residual.result _ c.from_residual.ensures.0

pub returns-then-not-branch-clause-gate : goal.returns-then-not-branch-clause-gate
returns-then-not-branch-clause-gate g c = counts_in _ _ _ c.feed_from.result _ c.loop.invariant.gate c.in_ok-feed_from.was c.feed_from.ensures.gate

pub returns-then-not-branch-clause-later : goal.returns-then-not-branch-clause-later
returns-then-not-branch-clause-later g c = later_twice g.W.Work.plan _ _ _ c.loop.invariant.later c.feed_from.ensures.later
