use Rattle.std.proofs.Common.{◌∙◌, ap, sym, subst, length, ◌≤◌}
use Rattle.std.proofs.lemmas.Result.{IfOk-weaker}
use Rattle.ks_job_source.specs.Opening.{IsReading, StandsPast}
use Rattle.ks_job.specs.Items.{item_views}
use Rattle.ks_shared.specs.Calls.{setup_in}
use Rattle.ks_topo.specs.Topologies.{draft_of, plan_in}
use Rattle.ks_run_feed.specs.Placing.{placed_all}
use Rattle.ks_run_feed.proofs.Feeds.{first_fed, fed_both, fed_before, may_still, reads_on}
use Rattle.ks_run_feed.proofs.feeding.feed.Goals as goal

pub returns-in-Some-clause-fed : goal.returns-in-Some-clause-fed
returns-in-Some-clause-fed g c =
    let old = c.args.feeder.now in
    let first = first_fed (draft_of c.args.topology.now) old c.produce_all.new.pass c.replace-records.result.items (ap (λ v. v.items) c.replace-records.ensures.value) c.in_ok-produce_all.ensures.ok in
    fed_before (draft_of c.args.topology.now) old _ (g.S.Source.left c.args.input.now) c.in-Some.end first (sym c.end.ensures.end ∙ c.in-Some.is)

pub feed_rest-requires-clause-may : goal.feed_rest-requires-clause-may
feed_rest-requires-clause-may g c κs within =
    let old = c.args.feeder.now in
    let same = c.end.ensures.kept c.in-None.is in
    let topics = (setup_in g.W.Work.plan old.pass.frame).plan.sources in
    let first = first_fed (draft_of c.args.topology.now) old c.produce_all.new.pass c.replace-records.result.items (ap (λ v. v.items) c.replace-records.ensures.value) c.in_ok-produce_all.ensures.ok in
    may_still g.W.Work.plan c.args.shared.now.growing.id (draft_of c.args.topology.now) old _ (placed_all (plan_in c.args.topology.now) (item_views old.records.items)) c.requires first
    (ap (λ v. v.items) c.replace-records.ensures.after ∙ c.new.ensures.items)
    (subst (λ r. StandsPast topics r.taken r.standing) (sym same) c.requires.past)
    (subst (λ r. 1 ≤ length r.buf.items) (sym same) c.requires.room)

pub feed_rest-requires-clause-reading : goal.feed_rest-requires-clause-reading
feed_rest-requires-clause-reading g c κs within =
    let rest = c.args.feeder.now.rest in
    subst (λ r. IsReading r.standing) (sym (c.end.ensures.kept c.in-None.is)) (reads_on _ rest.taken rest.standing c.requires.past (sym c.end.ensures.end ∙ c.in-None.is))

pub returns-in-None-clause-fed : goal.returns-in-None-clause-fed
returns-in-None-clause-fed g c =
    let old = c.args.feeder.now in
    let first = first_fed (draft_of c.args.topology.now) old c.produce_all.new.pass c.replace-records.result.items (ap (λ v. v.items) c.replace-records.ensures.value) c.in_ok-produce_all.ensures.ok in
    IfOk-weaker c.feed_rest.result _ _
    (λ e k. fed_both (draft_of c.args.topology.now) old (record { records = c.replace-records.new.dest; rest = c.end.new.self; pass = c.produce_all.new.pass }) c.feed_rest.new.feeder (g.S.Source.left c.args.input.now) (g.S.Source.left c.feed_rest.new.input) e
    first (ap (λ v. v.items) c.replace-records.ensures.after ∙ c.new.ensures.items) (ap (λ r. r.standing) (c.end.ensures.kept c.in-None.is)) k) c.feed_rest.ensures.fed
