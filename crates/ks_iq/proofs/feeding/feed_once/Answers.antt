use Rattle.std.proofs.Common.{ap, refl}
use Rattle.ks_record.specs.declared.record.TaskId.{TaskId}
use Rattle.ks_shared.specs.Calls.{setup_in}
use Rattle.ks_worker_state.proofs.Fed.{may_feed, fed_by}
use Rattle.ks_iq.proofs.Fresh.{fed_once, goes_to}
use Rattle.ks_iq.proofs.feeding.feed_once.Goals as goal

pub fetch_through-requires-clause-fetch : goal.fetch_through-requires-clause-fetch
fetch_through-requires-clause-fetch g c =
    may_feed (setup_in g.W.Work.plan c.args.pass.now.frame) c.args.pass.now.seen c.args.replica.now c.args.topic c.id.result.part c.position-from.result
    c.requires.may.setup c.requires.standby c.requires.topic (ap (λ (t : TaskId). t.part) c.id.ensures) c.position-from.ensures

pub returns-clause-fed : goal.returns-clause-fed
returns-clause-fed g c =
    let view = c.in_ok-feed.ensures.view in
    fed_once (setup_in g.W.Work.plan c.args.pass.now.frame) c.args.pass.now.seen c.fetch_through.new.pass.seen c.args.topic c.position-from.result c.in_ok-recs.next _ c.args.replica.now c.feed.new.self
    (fed_by g.W.Work.plan c.args.pass.now c.fetch_through.new.pass c.fetch_through.ensures.later c.args.replica.now c.feed.new.self c.args.topic c.id.result.part c.position-from.result c.in_ok-recs.next c.in_ok-recs.recs.items
    c.requires.may.network c.requires.standby c.requires.topic (ap (λ (t : TaskId). t.part) c.id.ensures) c.position-from.ensures c.in_ok-recs.ensures.records c.in_ok-recs.ensures.next view c.in_ok-feed.ensures.changelogs)
    c.position-from.ensures (goes_to c.args.replica.now c.feed.new.self c.args.topic c.in_ok-recs.next c.in_ok-recs.recs.items view) refl
