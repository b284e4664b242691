use Rattle.ks_settle.proofs.Feeding.{one_reached, own_changelog, own_replica}
use Rattle.ks_settle.proofs.restoring.fed_replica.Goals as goal

pub feed_to_end-requires-clause-own : goal.feed_to_end-requires-clause-own
feed_to_end-requires-clause-own g c =
    own_changelog g.W.Work.plan c.args.cluster.now c.requires.quiet c.is_history.ensures.history c.args.task c.args.changelogs.now c.loop-i.i c.loop-i.replica c.requires.changelogs c.loop-i-test.true c.loop-i.invariant

pub feed_to_end-requires-clause-of : goal.feed_to_end-requires-clause-of
feed_to_end-requires-clause-of g c = own_replica g.W.Work.plan c.args.cluster.now c.requires.quiet c.is_history.ensures.history c.args.task c.args.changelogs.now c.loop-i.i c.loop-i.replica c.loop-i.invariant

pub loop-i-preserved : goal.loop-i-preserved
loop-i-preserved g c =
    one_reached g.W.Work.plan c.args.cluster.now c.requires.quiet c.is_history.ensures.history c.args.task c.args.changelogs.now c.loop-i.i c.loop-i.replica c.feed_to_end.new.replica c.loop-i.invariant c.in_ok-feed_to_end.ensures
