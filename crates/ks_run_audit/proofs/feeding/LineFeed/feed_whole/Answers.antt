use Rattle.std.proofs.Common.{◌≡◌, ◌+◌, length, ◌∙◌, arith}
use Rattle.ks_run_audit.proofs.Results.{on_each, each_err}
use Rattle.ks_run_audit.proofs.feeding.LineFeed.feed_whole.Goals as goal

pub feed_within-requires-clause-few : goal.feed_within-requires-clause-few
feed_within-requires-clause-few g c = omega (arith, c.requires.feed.few, c.requires.room)

pub returns-clause-feed : goal.returns-clause-feed
returns-clause-feed g c = on_each c.feed_within.result _ _ c.feed_within.ensures.fed (λ fed. record {
  plain = fed.passing.plain;
  within = omega (arith, c.feed_within.ensures.taken, c.requires.room);
  few = omega (arith, c.feed_within.ensures.taken, c.feed_within.ensures.few, c.requires.feed.few);
})

pub returns-clause-taken : goal.returns-clause-taken
returns-clause-taken g c = on_each c.feed_within.result _ _ c.feed_within.ensures.fed (λ fed. c.feed_within.ensures.taken)

pub returns-clause-refused : goal.returns-clause-refused
returns-clause-refused g c = each_err c.feed_within.result _ _ c.feed_within.ensures.refused (λ fault h at same. h at (omega (arith, same, c.requires.room)))
