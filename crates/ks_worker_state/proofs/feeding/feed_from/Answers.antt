use Rattle.std.proofs.Common.{sym, ap, ◌∙◌}
use Rattle.ks_record.specs.declared.record.TaskId.{TaskId}
use Rattle.ks_shared.specs.Calls.{setup_in}
use Rattle.ks_standby.specs.Replicas.{replica_view}
use Rattle.ks_worker_client.proofs.Halting.{was_ok}
use Rattle.ks_worker_state.proofs.Fed.{may_feed, fed_by, moves_by, stops_by}
use Rattle.ks_worker_state.proofs.feeding.feed_from.Goals as goal

pub fetch-requires-clause-fetch : goal.fetch-requires-clause-fetch
fetch-requires-clause-fetch g c =
    may_feed (setup_in g.W.Work.plan c.args.client.now.pass.frame) c.args.client.now.pass.seen c.args.replica.now c.args.topic c.id.result.part c.position-from.result
    c.requires.may.setup c.requires.standby c.requires.topic (ap (λ (t : TaskId). t.part) c.id.ensures) c.position-from.ensures

pub returns-clause-fed : goal.returns-clause-fed
returns-clause-fed g c =
    fed_by g.W.Work.plan c.args.client.now.pass c.fetch.new.self.pass c.fetch.ensures.later c.args.replica.now c.feed.new.self c.args.topic c.id.result.part c.position-from.result c.in_ok-recs.next c.in_ok-recs.recs.items
    c.requires.may.network c.requires.standby c.requires.topic (ap (λ (t : TaskId). t.part) c.id.ensures) c.position-from.ensures c.in_ok-recs.ensures.records c.in_ok-recs.ensures.next
    (was_ok c.feed.result _ _ (sym c.or_halt.ensures ∙ c.in_ok-or_halt.was) c.feed.ensures.view)
    (was_ok c.feed.result _ _ (sym c.or_halt.ensures ∙ c.in_ok-or_halt.was) c.feed.ensures.changelogs)

pub returns-clause-moves : goal.returns-clause-moves
returns-clause-moves g c = λ e.
    moves_by (replica_view c.args.replica.now) (replica_view c.feed.new.self) c.args.topic c.position-from.result c.in_ok-recs.next c.in_ok-recs.recs.items c.position-from.ensures
    (was_ok c.feed.result _ _ (sym c.or_halt.ensures ∙ c.in_ok-or_halt.was) c.feed.ensures.view) e

pub returns-clause-stops : goal.returns-clause-stops
returns-clause-stops g c = λ e.
    stops_by (setup_in g.W.Work.plan c.args.client.now.pass.frame) c.args.client.now.pass.seen c.args.replica.now c.feed.new.self c.args.topic c.position-from.result c.in_ok-recs.next c.in_ok-recs.recs.items
    (returns-clause-fed g c).fed c.position-from.ensures (was_ok c.feed.result _ _ (sym c.or_halt.ensures ∙ c.in_ok-or_halt.was) c.feed.ensures.view) e
