use Rattle.std.proofs.Common.{[], refl, ap, ◌∙◌}
use Rattle.ks_history.specs.Machine.{has_topic}
use Rattle.ks_worker_client.proofs.Moments.{later_twice, not_later}
use Rattle.ks_worker_state.proofs.Fed.{standby_at, not_fed, fed_on}
use Rattle.ks_iq.proofs.Fresh.{may_through, stopped}
use Rattle.ks_iq.proofs.feeding.feed_to.Goals as goal

pub feed_once-requires-clause-may : goal.feed_once-requires-clause-may
feed_once-requires-clause-may g c = may_through g.W.Work.plan _ c.args.pass.now c.loop-alloc.pass c.loop-alloc.invariant.later c.requires.may

pub feed_once-requires-clause-standby : goal.feed_once-requires-clause-standby
feed_once-requires-clause-standby g c = standby_at g.W.Work.plan _ _ c.loop-alloc.pass c.loop-alloc.invariant.later _ c.loop-alloc.invariant.fed.standby

pub feed_once-requires-clause-topic : goal.feed_once-requires-clause-topic
feed_once-requires-clause-topic g c = ap (has_topic c.args.topic) c.loop-alloc.invariant.fed.changelogs ∙ c.requires.topic

pub loop-alloc-init : goal.loop-alloc-init
loop-alloc-init g c = record {
  later = not_later g.W.Work.plan c.args.pass.now c.requires.may.history;
  made = refl;
  fed = not_fed g.W.Work.plan _ _ c.args.pass.now (not_later g.W.Work.plan c.args.pass.now c.requires.may.history) c.args.replica.now c.requires.may.network c.requires.standby;
}

pub loop-alloc-preserved : goal.loop-alloc-preserved
loop-alloc-preserved g c = record {
  later = later_twice g.W.Work.plan _ _ _ c.loop-alloc.invariant.later c.feed_once.ensures.later;
  made = c.feed_once.ensures.made ∙ c.loop-alloc.invariant.made;
  fed = fed_on g.W.Work.plan _ _ _ c.loop-alloc.invariant.later c.feed_once.ensures.later c.requires.may.network _ _ _ [] _ c.loop-alloc.invariant.fed c.in_ok-feed_once.ensures.fed.fed;
}

pub returns-then-not-branch-clause-fed : goal.returns-then-not-branch-clause-fed
returns-then-not-branch-clause-fed g c =
    stopped g.W.Work.plan c.args.pass.now c.loop-alloc.pass c.feed_once.new.pass c.loop-alloc.invariant.later c.requires.may.network c.feed_once.ensures.later c.args.replica.now c.loop-alloc.replica c.feed_once.new.replica c.args.topic
    c.in_ok-feed_once.field-0 c.loop-alloc.invariant.fed c.in_ok-feed_once.ensures.fed c.if-not-branch.true
