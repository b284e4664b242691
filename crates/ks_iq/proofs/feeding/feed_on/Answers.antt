use Rattle.std.proofs.Common.{◌≤◌, ap, subst, ◌∙◌}
use Rattle.std.proofs.lemmas.Result.{on_ok_weaker}
use Rattle.ks_record.specs.declared.record.TaskId.{TaskId}
use Rattle.ks_law_commit.specs.Bounds.{stable_of}
use Rattle.ks_shared.specs.Calls.{setup_in}
use Rattle.ks_worker_client.specs.Calls.{state_seen}
use Rattle.ks_worker_client.proofs.Moments.{later_twice}
use Rattle.ks_worker_state.proofs.Fed.{standby_at, standby_later}
use Rattle.ks_iq.proofs.Fresh.{may_through, is_part, end_is_enough, fed_since}
use Rattle.ks_iq.proofs.feeding.feed_on.Goals as goal

pub end_of_part-requires-clause-part : goal.end_of_part-requires-clause-part
end_of_part-requires-clause-part g c =
    is_part (setup_in g.W.Work.plan c.args.pass.now.frame) c.args.pass.now.seen c.args.replica.now c.args.topic c.id.result.part c.requires.may.setup c.requires.standby c.requires.topic (ap (λ (t : TaskId). t.part) c.id.ensures)

pub feed_to-requires-clause-may : goal.feed_to-requires-clause-may
feed_to-requires-clause-may g c = may_through g.W.Work.plan _ c.args.pass.now c.end_of_part.new.pass c.end_of_part.ensures.later c.requires.may

pub feed_to-requires-clause-standby : goal.feed_to-requires-clause-standby
feed_to-requires-clause-standby g c =
    standby_at g.W.Work.plan c.args.pass.now c.end_of_part.new.pass c.end_of_part.new.pass c.end_of_part.ensures.later c.args.replica.now
    (standby_later g.W.Work.plan c.args.pass.now c.end_of_part.new.pass c.end_of_part.new.pass c.end_of_part.ensures.later c.args.replica.now c.requires.may.network c.requires.standby)

pub feed_to-requires-clause-enough : goal.feed_to-requires-clause-enough
feed_to-requires-clause-enough g c =
    subst (λ n. stable_of (state_seen g.W.Work.plan c.end_of_part.new.pass) (record { topic = c.args.topic; part = n }) ≤ c.in_ok-end.end) (ap (λ (t : TaskId). t.part) c.id.ensures)
    (end_is_enough g.W.Work.plan c.args.pass.now c.end_of_part.new.pass c.end_of_part.ensures.later c.requires.may.network (record { topic = c.args.topic; part = c.id.result.part }) c.in_ok-end.end c.in_ok-end.ensures.end)

pub returns-clause-later : goal.returns-clause-later
returns-clause-later g c = later_twice g.W.Work.plan _ _ _ c.end_of_part.ensures.later c.feed_to.ensures.later

pub returns-clause-made : goal.returns-clause-made
returns-clause-made g c = c.feed_to.ensures.made ∙ c.end_of_part.ensures.made

pub returns-clause-fed : goal.returns-clause-fed
returns-clause-fed g c =
    on_ok_weaker c.feed_to.result
    (fed_since g.W.Work.plan c.args.pass.now c.end_of_part.new.pass c.feed_to.new.pass c.end_of_part.ensures.later c.requires.may.network c.feed_to.new.pass.seen c.args.topic c.args.replica.now c.feed_to.new.replica)
    c.feed_to.ensures.fed
