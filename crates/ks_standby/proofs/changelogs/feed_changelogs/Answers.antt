use Rattle.std.proofs.Common.{◌∙◌, ap, arith}
use Rattle.ks_standby.specs.Replicas.{changelog_place}
use Rattle.ks_standby.proofs.Feeding.{there_fed, none_fed}
use Rattle.ks_standby.proofs.changelogs.feed_changelogs.Goals as goal

pub returns-in_ok-feed_changelog : goal.returns-in_ok-feed_changelog
returns-in_ok-feed_changelog c =
    let items = c.args.changelogs.now.items in
    let place = c.place_of-at.ensures ∙ ap (λ ls. changelog_place ls c.args.topic) c.as_slice.ensures.value in
    there_fed c.args.topic c.args.recs.items c.args.next items c.index_mut.result.now c.feed_changelog.new.changelog c.place_of-at.result place (omega arith) c.index_mut.ensures.value c.in_ok-feed_changelog.ensures

pub returns-else-at-len : goal.returns-else-at-len
returns-else-at-len c =
    let items = c.args.changelogs.now.items in
    let place = c.place_of-at.ensures ∙ ap (λ ls. changelog_place ls c.args.topic) c.as_slice.ensures.value in
    none_fed c.args.topic c.args.recs.items c.args.next items (omega (arith, place))
