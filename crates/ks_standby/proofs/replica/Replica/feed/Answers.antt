use Rattle.std.proofs.Common.{ap, ◌∙◌}
use Rattle.ks_store.proofs.Applied.{on_ok}
use Rattle.ks_standby.specs.Replicas.{numbers_of, view_in}
use Rattle.ks_standby.proofs.Feeding.{view_fed, numbers_fed, feeds}
use Rattle.ks_standby.proofs.replica.Replica.feed.Goals as goal

pub returns-clause-view : goal.returns-clause-view
returns-clause-view c = on_ok c.feed_changelogs.result (λ e. ap (view_in c.args.self.now.id) e ∙ view_fed c.args.topic c.args.recs.items c.args.next c.args.self.now.id c.args.self.now.changelogs.items c.requires) c.feed_changelogs.ensures

pub returns-clause-changelogs : goal.returns-clause-changelogs
returns-clause-changelogs c = on_ok c.feed_changelogs.result (λ e. ap numbers_of e ∙ numbers_fed c.args.topic c.args.recs.items c.args.next c.args.self.now.changelogs.items) c.feed_changelogs.ensures

pub returns-clause-follows : goal.returns-clause-follows
returns-clause-follows c =
    on_ok c.feed_changelogs.result (λ e setup journal got follows.
    feeds setup journal _ _ c.args.topic c.args.recs.items c.args.next
    (ap (view_in c.args.self.now.id) e ∙ view_fed c.args.topic c.args.recs.items c.args.next c.args.self.now.id c.args.self.now.changelogs.items c.requires) got follows) c.feed_changelogs.ensures
