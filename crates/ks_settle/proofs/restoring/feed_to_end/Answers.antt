use Rattle.ks_settle.proofs.Feeding.{not_fed, still_replica, still_own, fed_more, comes_nearer}
use Rattle.ks_settle.proofs.restoring.feed_to_end.Goals as goal

pub loop-moved-init : goal.loop-moved-init
loop-moved-init g c = not_fed g.W.Work.plan c.args.cluster.now c.requires.quiet c.is_history.ensures.history c.args.changelog c.args.replica.now c.requires.of

pub feed_on-requires-clause-own : goal.feed_on-requires-clause-own
feed_on-requires-clause-own g c = still_own g.W.Work.plan c.args.cluster.now c.requires.quiet c.is_history.ensures.history c.args.changelog c.loop-moved.moved c.args.replica.now c.loop-moved.replica c.loop-moved.invariant c.requires.own

pub feed_on-requires-clause-of : goal.feed_on-requires-clause-of
feed_on-requires-clause-of g c = still_replica g.W.Work.plan c.args.cluster.now c.requires.quiet c.is_history.ensures.history c.args.changelog c.loop-moved.moved c.args.replica.now c.loop-moved.replica c.loop-moved.invariant

pub loop-moved-preserved : goal.loop-moved-preserved
loop-moved-preserved g c =
    fed_more g.W.Work.plan c.args.cluster.now c.requires.quiet c.is_history.ensures.history c.args.changelog c.loop-moved.moved c.in_ok-moved.moved c.args.replica.now c.loop-moved.replica c.feed_on.new.replica c.loop-moved.invariant c.in_ok-moved.ensures

pub loop-moved-smaller : goal.loop-moved-smaller
loop-moved-smaller g c =
    comes_nearer g.W.Work.plan c.args.cluster.now c.requires.quiet c.is_history.ensures.history c.args.changelog c.loop-moved.moved c.in_ok-moved.moved c.args.replica.now c.loop-moved.replica c.feed_on.new.replica c.loop-moved-test.true c.loop-moved.invariant c.in_ok-moved.ensures

pub returns : goal.returns
returns g c = record { fed = c.loop-moved.invariant.fed; ends = c.loop-moved.invariant.ends c.loop-moved-test.false }
