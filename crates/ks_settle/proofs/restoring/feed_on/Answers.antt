use Rattle.std.proofs.Common.{◌≡◌, true, subst, sym}
use Rattle.ks_history.specs.Machine.{has_topic}
use Rattle.ks_settle.proofs.Feeding.{may_feed, stays, goes_on}
use Rattle.ks_settle.proofs.restoring.feed_on.Goals as goal

pub fetch-requires : goal.fetch-requires
fetch-requires g c = may_feed g.W.Work.plan c.args.cluster.now c.requires.quiet c.is_history.ensures.history c.args.changelog c.args.replica.now c.requires.own c.requires.of c.id.result c.position-from.result c.id.ensures c.position-from.ensures

pub feed-requires : goal.feed-requires
feed-requires g c = subst (λ l. has_topic c.args.changelog l ≡ true) (sym c.requires.of.changelogs) c.requires.own

pub returns-then-next-from : goal.returns-then-next-from
returns-then-next-from g c =
    stays g.W.Work.plan c.args.cluster.now c.requires.quiet c.is_history.ensures.history c.args.changelog c.args.replica.now c.requires.own c.requires.of c.id.result c.position-from.result c.in_ok-recs.next c.id.ensures c.position-from.ensures c.in_ok-recs.ensures.next
    c.if-next-from.true

pub returns : goal.returns
returns g c =
    goes_on g.W.Work.plan c.args.cluster.now c.requires.quiet c.is_history.ensures.history c.args.changelog c.args.replica.now c.requires.own c.requires.of c.id.result c.position-from.result c.in_ok-recs.next c.in_ok-recs.recs.items c.feed.new.self c.id.ensures c.position-from.ensures
    c.in_ok-recs.ensures.records c.in_ok-recs.ensures.next c.if-next-from.false c.in_ok-feed.ensures.view c.in_ok-feed.ensures.changelogs (c.in_ok-feed.ensures.follows _ _)
