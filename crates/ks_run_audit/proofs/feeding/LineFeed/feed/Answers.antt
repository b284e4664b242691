use Rattle.std.proofs.Common.{arith}
use Rattle.ks_run_audit.proofs.Results.{on_each}
use Rattle.ks_run_audit.proofs.feeding.LineFeed.feed.Goals as goal

pub returns-then-bytes-room-clause-feed : goal.returns-then-bytes-room-clause-feed
returns-then-bytes-room-clause-feed g c = on_each c.feed_past.result _ _ c.feed_past.ensures.never (λ h. absurd h)

pub returns-then-bytes-room-clause-fed : goal.returns-then-bytes-room-clause-fed
returns-then-bytes-room-clause-fed g c = on_each c.feed_past.result _ _ c.feed_past.ensures.never (λ h. absurd h)

pub returns-then-bytes-room-clause-taken : goal.returns-then-bytes-room-clause-taken
returns-then-bytes-room-clause-taken g c = on_each c.feed_past.result _ _ c.feed_past.ensures.never (λ h. absurd h)
