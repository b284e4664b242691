use Rattle.std.proofs.Common.{◌≤◌, [], get_or, refl, sym, subst, ◌∙◌}
use Rattle.std.proofs.lemmas.List.{take_all}
use Rattle.ks_record.specs.declared.record.TaskId.{TaskId}
use Rattle.ks_history.specs.Machine.{part_of}
use Rattle.ks_law_commit.specs.Bounds.{stable_of}
use Rattle.ks_shared.specs.Calls.{setup_in}
use Rattle.ks_worker_client.specs.Calls.{state_seen}
use Rattle.ks_worker_client.proofs.Halting.{same_counts}
use Rattle.ks_worker_client.proofs.Moments.{may_later, later_twice, not_later}
use Rattle.ks_standby.specs.Replicas.{replica_view}
use Rattle.ks_worker_state.specs.Standbys.{HasReadStable}
use Rattle.ks_worker_state.proofs.Fed.{own_topic, standby_at, not_fed, fed_on, fed_of, one_more_topic, read_to, told_end}
use Rattle.std.proofs.lemmas.Result.{IfOk-from_err}
use Rattle.ks_worker_state.proofs.Exits.{counts_out, counts_none}
use Rattle.ks_worker_state.proofs.feeding.feed_to_ends.Goals as goal

pub feed_to-requires-clause-may : goal.feed_to-requires-clause-may
feed_to-requires-clause-may g c = may_later g.W.Work.plan _ _ _ _ _ c.loop-i.invariant.later c.loop-i.invariant.gate c.requires.may

pub feed_to-requires-clause-standby : goal.feed_to-requires-clause-standby
feed_to-requires-clause-standby g c = standby_at g.W.Work.plan _ _ c.loop-i.client.pass c.loop-i.invariant.later _ c.loop-i.invariant.fed.standby

pub feed_to-requires-clause-topic : goal.feed_to-requires-clause-topic
feed_to-requires-clause-topic g c = own_topic c.args.replica.now c.loop-i.replica c.args.changelogs.now c.loop-i.i c.loop-i-test.true c.requires.changelogs c.loop-i.invariant.fed.changelogs

pub loop-i-init : goal.loop-i-init
loop-i-init g c = record {
  later = not_later g.W.Work.plan c.args.client.now.pass c.requires.may.history;
  made = refl;
  gate = refl;
  fed = not_fed g.W.Work.plan _ _ c.args.client.now.pass (not_later g.W.Work.plan c.args.client.now.pass c.requires.may.history) c.args.replica.now c.requires.may.network c.requires.standby;
  stops = λ u none. absurd cc;
}

pub loop-i-preserved : goal.loop-i-preserved
loop-i-preserved g c = record {
  later = later_twice g.W.Work.plan _ _ _ c.loop-i.invariant.later c.feed_to.ensures.later;
  made = c.feed_to.ensures.made ∙ c.loop-i.invariant.made;
  gate = same_counts _ _ c.feed_to.result c.in_ok-feed_to.field-0 c.in_ok-feed_to.was c.feed_to.ensures.gate ∙ c.loop-i.invariant.gate;
  fed = fed_on g.W.Work.plan _ _ _ c.loop-i.invariant.later c.feed_to.ensures.later c.requires.may.network _ _ _ [] [] c.loop-i.invariant.fed c.in_ok-feed_to.ensures.fed;
  stops = subst (λ l. HasReadStable (setup_in g.W.Work.plan c.args.client.now.pass.frame) c.args.client.now.pass.seen l (replica_view c.feed_to.new.replica))
      (one_more_topic c.args.changelogs.now c.loop-i.i c.loop-i-test.true)
      (read_to g.W.Work.plan c.args.client.now.pass c.loop-i.client.pass c.loop-i.invariant.later c.requires.may.network c.loop-i.replica c.feed_to.new.replica _ _ _ c.loop-i.invariant.stops c.in_ok-feed_to.ensures.fed.fed
      (subst (λ (t : TaskId). stable_of (state_seen g.W.Work.plan c.args.client.now.pass) (part_of (get_or c.args.changelogs.now c.loop-i.i 0) t) ≤ get_or c.args.ends.now c.loop-i.i 0)
      (sym (c.in_ok-feed_to.ensures.fed.fed.task ∙ c.loop-i.invariant.fed.fed.task))
      (told_end (state_seen g.W.Work.plan c.args.client.now.pass) c.args.replica.now.id c.args.changelogs.now c.args.ends.now c.loop-i.i c.requires.ends c.loop-i-test.true))
      c.in_ok-feed_to.ensures.stops);
}

pub returns-clause-fed : goal.returns-clause-fed
returns-clause-fed g c =
    fed_of (setup_in g.W.Work.plan c.args.client.now.pass.frame) c.args.client.now.pass.seen c.loop-i.client.pass.seen c.args.changelogs.now c.args.replica.now c.loop-i.replica c.loop-i.invariant.fed
    (subst (λ l. HasReadStable (setup_in g.W.Work.plan c.args.client.now.pass.frame) c.args.client.now.pass.seen l (replica_view c.loop-i.replica)) (take_all c.loop-i.i c.args.changelogs.now c.loop-i-test.false)
    c.loop-i.invariant.stops)

pub returns-clause-stops : goal.returns-clause-stops
returns-clause-stops g c =
    subst (λ l. HasReadStable (setup_in g.W.Work.plan c.args.client.now.pass.frame) c.args.client.now.pass.seen l (replica_view c.loop-i.replica)) (take_all c.loop-i.i c.args.changelogs.now c.loop-i-test.false)
    c.loop-i.invariant.stops

pub returns-in_err-feed_to-clause-gate : goal.returns-in_err-feed_to-clause-gate
returns-in_err-feed_to-clause-gate g c = counts_out _ _ _ c.feed_to.result c.from_residual.result c.in_err-feed_to.field-0.0 c.loop-i.invariant.gate c.in_err-feed_to.was c.feed_to.ensures.gate c.from_residual.ensures.1

pub returns-in_err-feed_to-clause-later : goal.returns-in_err-feed_to-clause-later
returns-in_err-feed_to-clause-later g c = later_twice g.W.Work.plan _ _ _ c.loop-i.invariant.later c.feed_to.ensures.later

pub returns-in_err-feed_to-clause-fed : goal.returns-in_err-feed_to-clause-fed
returns-in_err-feed_to-clause-fed g c = IfOk-from_err c.from_residual.result _ c.from_residual.ensures.0

pub returns-in_err-feed_to-clause-stops : goal.returns-in_err-feed_to-clause-stops
returns-in_err-feed_to-clause-stops g c = IfOk-from_err c.from_residual.result _ c.from_residual.ensures.0

pub returns-clause-gate : goal.returns-clause-gate
returns-clause-gate g c = counts_none _ _ c.loop-i.invariant.gate
