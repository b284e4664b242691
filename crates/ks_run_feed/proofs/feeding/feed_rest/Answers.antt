use Rattle.std.proofs.Common.{sym, ◌∙◌, ap, arith}
use Rattle.ks_job.specs.Items.{item_views}
use Rattle.ks_topo.specs.Topologies.{draft_of}
use Rattle.ks_shared.specs.Calls.{setup_in}
use Rattle.ks_run_feed.proofs.Feeds.{feeding_starts, fed_more, turn_records, turn_ends, some_left_to_read}
use Rattle.ks_run_feed.proofs.feeding.feed_rest.Goals as goal

pub loop-records-init : goal.loop-records-init
loop-records-init g c =
    feeding_starts g.W.Work.plan c.args.shared.now.growing.id (draft_of c.args.topology.now) c.args.feeder.now (g.S.Source.left c.args.input.now) (g.S.Source.faults c.args.input.now) c.requires.may c.requires.reading c.requires.none

pub produce_all-requires-clause-records : goal.produce_all-requires-clause-records
produce_all-requires-clause-records g c =
    turn_records g.W.Work.plan c.args.shared.now.growing.id (draft_of c.args.topology.now) c.args.feeder.now c.loop-records.feeder _ _ _ _ c.read_on.new.self.standing c.read_on.new.self.taken (item_views c.in-Ok.records.items) c.loop-records.invariant c.in-Ok.ensures.past

pub returns-in-Some-clause-fed : goal.returns-in-Some-clause-fed
returns-in-Some-clause-fed g c =
    turn_ends g.W.Work.plan c.args.shared.now.growing.id (draft_of c.args.topology.now) c.args.feeder.now c.loop-records.feeder
    (record { records = c.loop-records.feeder.records; rest = c.end.new.self; pass = c.produce_all.new.pass })
    (g.S.Source.left c.args.input.now) _ (g.S.Source.left c.read_on.new.input) _ _ (item_views c.in-Ok.records.items) c.read_on.new.self.standing c.in-Some.end c.loop-records.invariant
    c.in_ok-produce_all.ensures.ok
    c.in-Ok.ensures.goes (sym c.end.ensures.end ∙ c.in-Some.is) c.requires.none

pub loop-records-preserved : goal.loop-records-preserved
loop-records-preserved g c =
    let kept = c.end.ensures.kept c.in_default.is in
    let past = c.in-Ok.ensures.past (setup_in g.W.Work.plan c.loop-records.feeder.pass.frame).plan.sources c.loop-records.invariant.may.past in
    rw kept (fed_more g.W.Work.plan c.args.shared.now.growing.id (draft_of c.args.topology.now) c.args.feeder.now c.loop-records.feeder
    (record { records = c.loop-records.feeder.records; rest = c.read_on.new.self; pass = c.produce_all.new.pass })
    (g.S.Source.left c.args.input.now) _ (g.S.Source.left c.read_on.new.input) (g.S.Source.faults c.args.input.now) _ (g.S.Source.faults c.read_on.new.input) (item_views c.in-Ok.records.items) c.loop-records.invariant
    c.in_ok-produce_all.ensures.ok
    c.loop-records.invariant.none c.in-Ok.ensures.goes past.stands c.in-Ok.ensures.room c.in-Ok.ensures.kept (sym c.end.ensures.end ∙ c.in_default.is))

pub loop-records-smaller : goal.loop-records-smaller
loop-records-smaller g c =
    let kept = c.end.ensures.kept c.in_default.is in
    let past = c.in-Ok.ensures.past (setup_in g.W.Work.plan c.loop-records.feeder.pass.frame).plan.sources c.loop-records.invariant.may.past in
    let next = fed_more g.W.Work.plan c.args.shared.now.growing.id (draft_of c.args.topology.now) c.args.feeder.now c.loop-records.feeder
    (record { records = c.loop-records.feeder.records; rest = c.read_on.new.self; pass = c.produce_all.new.pass })
    (g.S.Source.left c.args.input.now) _ (g.S.Source.left c.read_on.new.input) (g.S.Source.faults c.args.input.now) _ (g.S.Source.faults c.read_on.new.input) (item_views c.in-Ok.records.items) c.loop-records.invariant
    c.in_ok-produce_all.ensures.ok
    c.loop-records.invariant.none c.in-Ok.ensures.goes past.stands c.in-Ok.ensures.room c.in-Ok.ensures.kept (sym c.end.ensures.end ∙ c.in_default.is) in
    let more = past.more next.reading in
    let left = some_left_to_read g.W.Work.plan c.args.shared.now.growing.id (draft_of c.args.topology.now) c.loop-records.feeder c.loop-records.invariant.reading c.loop-records.invariant.may in
    let same = ap (λ r. r.taken) kept in
    omega (arith, more, left, same)
