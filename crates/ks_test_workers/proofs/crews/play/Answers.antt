use Rattle.ks_topo.specs.Topologies.{draft_of, plan_in}
use Rattle.ks_run_feed.specs.Placing.{counts_in}
use Rattle.ks_job.specs.Items.{item_views}
use Rattle.ks_shared.specs.Calls.{frame_of}
use Rattle.ks_run_feed.proofs.Fresh.{first_fresh, fresh_pass, fresh_counts, fresh_places, fresh_records}
use Rattle.ks_run_feed.proofs.Produced.{still_first}
use Rattle.ks_test_workers.proofs.Pairing.{others_two, still_pass, may_play, fresh_pair}
use Rattle.ks_test_workers.proofs.crews.play.Goals as goal

pub produce_all-requires-clause-pass : goal.produce_all-requires-clause-pass
produce_all-requires-clause-pass g c =
    let fresh = first_fresh c.lock-shared.result.0.growing.id c.args.cluster.journal (frame_of c.args.cluster) c.lock-shared.result.1.items _ c.split_first-first.result.0 c.split_first-first.ensures c.lock-shared.ensures.fresh in
    fresh_pass g.W.Work.plan c.lock-shared.result.0.growing.id c.args.cluster 0 c.split_first-first.result.0 fresh

pub produce_all-requires-clause-counts : goal.produce_all-requires-clause-counts
produce_all-requires-clause-counts g c =
    let fresh = first_fresh c.lock-shared.result.0.growing.id c.args.cluster.journal (frame_of c.args.cluster) c.lock-shared.result.1.items _ c.split_first-first.result.0 c.split_first-first.ensures c.lock-shared.ensures.fresh in
    fresh_counts g.W.Work.plan c.lock-shared.result.0.growing.id c.args.cluster 0 c.split_first-first.result.0 fresh (counts_in (plan_in c.args.topology.now)) c.requires.ready.counts_are

pub produce_all-requires-clause-places : goal.produce_all-requires-clause-places
produce_all-requires-clause-places g c =
    let fresh = first_fresh c.lock-shared.result.0.growing.id c.args.cluster.journal (frame_of c.args.cluster) c.lock-shared.result.1.items _ c.split_first-first.result.0 c.split_first-first.ensures c.lock-shared.ensures.fresh in
    fresh_places g.W.Work.plan c.lock-shared.result.0.growing.id c.args.cluster 0 c.split_first-first.result.0 fresh (plan_in c.args.topology.now) c.requires.ready.places

pub produce_all-requires-clause-records : goal.produce_all-requires-clause-records
produce_all-requires-clause-records g c =
    let fresh = first_fresh c.lock-shared.result.0.growing.id c.args.cluster.journal (frame_of c.args.cluster) c.lock-shared.result.1.items _ c.split_first-first.result.0 c.split_first-first.ensures c.lock-shared.ensures.fresh in
    fresh_records g.W.Work.plan c.lock-shared.result.0.growing.id c.args.cluster 0 c.split_first-first.result.0 fresh (item_views c.args.items.items) c.requires.ready.records

pub enlist-pair-requires : goal.enlist-pair-requires
enlist-pair-requires g c = record { two = others_two c.lock-shared.result.1.items c.split_first-first.result.1.items c.split_first-first.result.0 c.split_first-first.ensures c.lock-shared.ensures.count }

pub play_moves-requires-clause-one : goal.play_moves-requires-clause-one
play_moves-requires-clause-one g c =
    let pair = c.enlist-pair.result in
    let fresh = fresh_pair _ _ _ c.lock-shared.result.1.items c.split_first-first.result.1.items c.split_first-first.result.0 pair.one.worker.state.session.client.pass pair.two.worker.state.session.client.pass c.split_first-first.ensures c.enlist-pair.ensures.passes c.lock-shared.ensures.fresh in
    may_play g.W.Work.plan g.W.Work.good g.H.Hash128.hash_of (draft_of c.args.topology.now) c.args.scene.now.placing c.args.cluster (item_views c.args.items.items) c.requires.ready c.nodes-nodes.ensures.well_formed c.lock-shared.result.0.growing.id
    1 pair.one.worker.placing pair.one.left pair.one.worker.state fresh.1 c.enlist-pair.ensures.one.0 c.enlist-pair.ensures.one.1 c.enlist-pair.ensures.one.2

pub play_moves-requires-clause-two : goal.play_moves-requires-clause-two
play_moves-requires-clause-two g c =
    let pair = c.enlist-pair.result in
    let fresh = fresh_pair _ _ _ c.lock-shared.result.1.items c.split_first-first.result.1.items c.split_first-first.result.0 pair.one.worker.state.session.client.pass pair.two.worker.state.session.client.pass c.split_first-first.ensures c.enlist-pair.ensures.passes c.lock-shared.ensures.fresh in
    may_play g.W.Work.plan g.W.Work.good g.H.Hash128.hash_of (draft_of c.args.topology.now) c.args.scene.now.placing c.args.cluster (item_views c.args.items.items) c.requires.ready c.nodes-nodes.ensures.well_formed c.lock-shared.result.0.growing.id
    2 pair.two.worker.placing pair.two.left pair.two.worker.state fresh.2 c.enlist-pair.ensures.two.0 c.enlist-pair.ensures.two.1 c.enlist-pair.ensures.two.2

pub close-requires-clause-first : goal.close-requires-clause-first
close-requires-clause-first g c =
    let lock = c.lock-shared.result.0.growing.id in
    let fresh = first_fresh lock c.args.cluster.journal (frame_of c.args.cluster) c.lock-shared.result.1.items _ c.split_first-first.result.0 c.split_first-first.ensures c.lock-shared.ensures.fresh in
    still_first lock c.split_first-first.result.0 c.produce_all.new.pass _ c.in-Ok.ensures.ok (fresh_pass g.W.Work.plan lock c.args.cluster 0 c.split_first-first.result.0 fresh)

pub close-requires-clause-one : goal.close-requires-clause-one
close-requires-clause-one g c =
    let pair = c.enlist-pair.result in
    let lock = c.lock-shared.result.0.growing.id in
    let fresh = fresh_pair _ _ _ c.lock-shared.result.1.items c.split_first-first.result.1.items c.split_first-first.result.0 pair.one.worker.state.session.client.pass pair.two.worker.state.session.client.pass c.split_first-first.ensures c.enlist-pair.ensures.passes c.lock-shared.ensures.fresh in
    still_pass lock 1 pair.one.worker.state.session.client.pass c.play_moves.new.pair.one.worker.state.session.client.pass c.play_moves.ensures.one (fresh_pass g.W.Work.plan lock c.args.cluster 1 pair.one.worker.state.session.client.pass fresh.1)

pub close-requires-clause-two : goal.close-requires-clause-two
close-requires-clause-two g c =
    let pair = c.enlist-pair.result in
    let lock = c.lock-shared.result.0.growing.id in
    let fresh = fresh_pair _ _ _ c.lock-shared.result.1.items c.split_first-first.result.1.items c.split_first-first.result.0 pair.one.worker.state.session.client.pass pair.two.worker.state.session.client.pass c.split_first-first.ensures c.enlist-pair.ensures.passes c.lock-shared.ensures.fresh in
    still_pass lock 2 pair.two.worker.state.session.client.pass c.play_moves.new.pair.two.worker.state.session.client.pass c.play_moves.ensures.two (fresh_pass g.W.Work.plan lock c.args.cluster 2 pair.two.worker.state.session.client.pass fresh.2)
