use Rattle.ks_test_shared.proofs.Staying.{fed_follows}
use Rattle.ks_test_shared.proofs.calls.feed.Goals as goal

pub returns-clause-follows : goal.returns-clause-follows
returns-clause-follows g c =
    fed_follows c.fetch.new.pass.seen c.in-Ok-new.replica c.feed.new.self c.in-Ok.recs.items c.in-Ok.next c.in-Ok-new.ensures.view c.in-Ok-new.ensures.changelogs c.in-Ok-feed.ensures.changelogs c.in-Ok-feed.ensures.view c.in-Ok.ensures.records c.in-Ok.ensures.next c.in-Ok-feed.ensures.follows
