use Rattle.std.proofs.Common.{◌+◌, ◌*◌, ◌≤◌, ◌++◌, cond, length, refl, sym, ap, subst, ◌∙◌}
use Rattle.std.specs.Prelude.{is_some, option_map}
use Rattle.std.proofs.lemmas.Result.{IfOk-weaker}
use Rattle.ks_topo.specs.Topologies.{draft_of}
use Rattle.ks_cluster.specs.View.{setup_of}
use Rattle.ks_growing.specs.Passes.{IsFresh}
use Rattle.ks_shared.specs.Calls.{frame_of}
use Rattle.ks_run_workers.specs.Asked.{option_list, AreAnswered}
use Rattle.ks_run_workers.specs.Members.{ArePasses}
use Rattle.ks_run_feed.specs.Wanted.{placing_of}
use Rattle.ks_run_feed.proofs.Fresh.{first_fresh, fresh_seen, fresh_feeder}
use Rattle.ks_run_feed.proofs.Produced.{none_parked}
use Rattle.ks_run_workers.proofs.Enlisted.{are_workers, others_fresh, others_are_passes, all_may_run, members_long}
use Rattle.ks_run_workers.proofs.LockPasses.{worked}
use Rattle.ks_run_workers.proofs.TakenLast.{others_counted, taken_split, taken_long, asker_long, asks_the, none_answered, each_front, passes_fit, one_for_asker, no_more, some_work, all_counted, asker_may}
use Rattle.ks_run_workers.proofs.workers.run_gated.Goals as goal

pub new-requires-clause-none : goal.new-requires-clause-none
new-requires-clause-none g c = none_parked g.W.Work.plan c.args.cluster c.requires.ready.new

pub new-requires-clause-passes : goal.new-requires-clause-passes
new-requires-clause-passes g c =
    let s = c.args.crew.settings in
    let all = are_workers s.instances s.threads c.requires.settings.instances c.requires.settings.threads in
    passes_fit c.count_passes-count.result (s.instances * s.threads) (is_some c.args.crew.question) c.count_passes-count.ensures all.few

pub asker_of-asker-requires : goal.asker_of-asker-requires
asker_of-asker-requires g c =
    let s = c.args.crew.settings in
    let all = are_workers s.instances s.threads c.requires.settings.instances c.requires.settings.threads in
    λ asks. one_for_asker (length c.split_first-pass.result.1.items) (s.instances * s.threads) (is_some c.args.crew.question) all.some
    (others_counted c.in-Ok.passes.items c.split_first-pass.result.1.items c.split_first-pass.result.0 c.count_passes-count.result (s.instances * s.threads) (cond (is_some c.args.crew.question) 2 1) c.split_first-pass.ensures c.in-Ok.ensures.count c.count_passes-count.ensures)

pub enlist-requires-clause-gates : goal.enlist-requires-clause-gates
enlist-requires-clause-gates g c =
    let s = c.args.crew.settings in
    let all = are_workers s.instances s.threads c.requires.settings.instances c.requires.settings.threads in
    let long = taken_long c.args.crew.question c.split_first-pass.result.1.items c.asker_of-asker.new.passes.items c.asker_of-asker.result (s.instances * s.threads) c.asker_of-asker.ensures
    (others_counted c.in-Ok.passes.items c.split_first-pass.result.1.items c.split_first-pass.result.0 c.count_passes-count.result (s.instances * s.threads) (cond (is_some c.args.crew.question) 2 1) c.split_first-pass.ensures c.in-Ok.ensures.count c.count_passes-count.ensures) in
    no_more _ (s.instances * s.threads) (length c.args.crew.gates.items) long (subst (λ m. s.instances * s.threads ≤ m) (sym c.requires.gates) all.few)

pub enlist-requires-clause-few : goal.enlist-requires-clause-few
enlist-requires-clause-few g c =
    let s = c.args.crew.settings in
    let all = are_workers s.instances s.threads c.requires.settings.instances c.requires.settings.threads in
    let long = taken_long c.args.crew.question c.split_first-pass.result.1.items c.asker_of-asker.new.passes.items c.asker_of-asker.result (s.instances * s.threads) c.asker_of-asker.ensures
    (others_counted c.in-Ok.passes.items c.split_first-pass.result.1.items c.split_first-pass.result.0 c.count_passes-count.result (s.instances * s.threads) (cond (is_some c.args.crew.question) 2 1) c.split_first-pass.ensures c.in-Ok.ensures.count c.count_passes-count.ensures) in
    no_more _ (s.instances * s.threads) 16 long all.few

pub enlist-requires-clause-instances : goal.enlist-requires-clause-instances
enlist-requires-clause-instances g c =
    let s = c.args.crew.settings in
    let all = are_workers s.instances s.threads c.requires.settings.instances c.requires.settings.threads in
    let long = taken_long c.args.crew.question c.split_first-pass.result.1.items c.asker_of-asker.new.passes.items c.asker_of-asker.result (s.instances * s.threads) c.asker_of-asker.ensures
    (others_counted c.in-Ok.passes.items c.split_first-pass.result.1.items c.split_first-pass.result.0 c.count_passes-count.result (s.instances * s.threads) (cond (is_some c.args.crew.question) 2 1) c.split_first-pass.ensures c.in-Ok.ensures.count c.count_passes-count.ensures) in
    no_more _ (s.instances * s.threads) (4 * s.threads) long all.instances

pub work_and_close-requires-clause-may : goal.work_and_close-requires-clause-may
work_and_close-requires-clause-may g c κs within =
    let lock = c.in-Ok.shared.growing.id in
    let d = draft_of c.args.topology.now in
    let s = c.args.crew.settings in
    let all = c.split_first-pass.result.1.items in
    let others = c.asker_of-asker.new.passes.items in
    let asker = c.asker_of-asker.result in
    let sizes = are_workers s.instances s.threads c.requires.settings.instances c.requires.settings.threads in
    let long = taken_long c.args.crew.question all others asker (s.instances * s.threads) c.asker_of-asker.ensures (others_counted c.in-Ok.passes.items c.split_first-pass.result.1.items c.split_first-pass.result.0 c.count_passes-count.result (s.instances * s.threads) (cond (is_some c.args.crew.question) 2 1) c.split_first-pass.ensures c.in-Ok.ensures.count c.count_passes-count.ensures) in
    let many = members_long (λ m. m.worker.state.session.client.pass) c.in-Ok-enlist.members.items others (s.instances * s.threads) c.in-Ok-enlist.ensures.passes long in
    let fresh = others_fresh lock c.args.cluster.journal (frame_of c.args.cluster) c.in-Ok.passes.items all c.split_first-pass.result.0 c.split_first-pass.ensures c.in-Ok.ensures.fresh in
    let first = first_fresh lock c.args.cluster.journal (frame_of c.args.cluster) c.in-Ok.passes.items _ c.split_first-pass.result.0 c.split_first-pass.ensures c.in-Ok.ensures.fresh in
    let split = taken_split c.args.crew.question all others asker c.asker_of-asker.ensures in
    record {
      some = some_work _ (s.instances * s.threads) many sizes.some;
      may = all_may_run g.W.Work.plan g.W.Work.good g.H.Hash128.hash_of d c.args.cluster lock (placing_of s) c.turns_of.result c.requires.ready.new c.requires.ready.topology
          c.requires.ready.wanted c.requires.settings.threads.0 c.nodes-nodes.ensures.well_formed c.requires.ready.nodes c.turns_of.ensures.few
          (λ m. m.worker.state) (λ m. m.worker.placing) c.in-Ok-enlist.members.items others c.in-Ok-enlist.ensures.passes (each_front (λ k p. IsFresh lock c.args.cluster.journal (frame_of c.args.cluster) (k + 1) p) all others (option_list (option_map (λ a. a.reader.pass) asker)) split fresh) c.in-Ok-enlist.ensures.enlisted c.in-Ok-enlist.ensures.placing;
      feed = fresh_feeder g.W.Work.plan lock d c.args.cluster _ first c.requires.ready.counts_are c.requires.ready.places c.requires.ready.records c.requires.ready.past c.requires.ready.room;
      ask = asker_may g.W.Work.plan g.H.Hash128.hash_of d c.args.cluster lock c.requires.ready.new c.requires.ready.topology c.nodes-nodes.ensures.well_formed c.requires.ready.nodes c.args.crew.question all others asker c.asker_of-asker.ensures fresh c.requires.question;
    }

pub work_and_close-requires-clause-passes : goal.work_and_close-requires-clause-passes
work_and_close-requires-clause-passes g c κs within =
    let lock = c.in-Ok.shared.growing.id in
    let all = c.split_first-pass.result.1.items in
    let others = c.asker_of-asker.new.passes.items in
    let asker = c.asker_of-asker.result in
    let fresh = others_fresh lock c.args.cluster.journal (frame_of c.args.cluster) c.in-Ok.passes.items all c.split_first-pass.result.0 c.split_first-pass.ensures c.in-Ok.ensures.fresh in
    subst (λ l. ArePasses lock (l ++ option_list (option_map (λ a. a.reader.pass) asker))) (sym c.in-Ok-enlist.ensures.passes)
    (subst (ArePasses lock) (taken_split c.args.crew.question all others asker c.asker_of-asker.ensures) (others_are_passes lock c.args.cluster.journal (frame_of c.args.cluster) all fresh))

pub work_and_close-requires-clause-all : goal.work_and_close-requires-clause-all
work_and_close-requires-clause-all g c κs within =
    let s = c.args.crew.settings in
    let all = c.split_first-pass.result.1.items in
    let others = c.asker_of-asker.new.passes.items in
    let asker = c.asker_of-asker.result in
    let long = taken_long c.args.crew.question all others asker (s.instances * s.threads) c.asker_of-asker.ensures (others_counted c.in-Ok.passes.items c.split_first-pass.result.1.items c.split_first-pass.result.0 c.count_passes-count.result (s.instances * s.threads) (cond (is_some c.args.crew.question) 2 1) c.split_first-pass.ensures c.in-Ok.ensures.count c.count_passes-count.ensures) in
    let many = members_long (λ m. m.worker.state.session.client.pass) c.in-Ok-enlist.members.items others (s.instances * s.threads) c.in-Ok-enlist.ensures.passes long in
    let more = asker_long c.args.crew.question all others asker c.asker_of-asker.ensures in
    all_counted _ _ _ c.count_passes-count.result (s.instances * s.threads) (cond (is_some c.args.crew.question) 2 1) many more c.in-Ok.ensures.passes c.count_passes-count.ensures

pub work_and_close-requires-clause-topology : goal.work_and_close-requires-clause-topology
work_and_close-requires-clause-topology g c κs within = record {
  parts = c.requires.ready.nodes;
  setup_is = ap (setup_of g.W.Work.plan) c.in-Ok.ensures.first ∙ c.requires.ready.topology;
}

pub work_and_close-requires-clause-none : goal.work_and_close-requires-clause-none
work_and_close-requires-clause-none g c κs within = none_answered c.args.crew.question c.split_first-pass.result.1.items c.asker_of-asker.new.passes.items c.asker_of-asker.result c.asker_of-asker.ensures

pub returns-clause-asked : goal.returns-clause-asked
returns-clause-asked g c =
    IfOk-weaker c.work_and_close.result _ _
    (λ r h. subst (λ q. AreAnswered g.W.Work.plan (draft_of c.args.topology.now) r.0.cluster q r.1) (asks_the c.args.crew.question c.split_first-pass.result.1.items c.asker_of-asker.new.passes.items c.asker_of-asker.result c.asker_of-asker.ensures) h)
    c.work_and_close.ensures.asked

pub returns-clause-worked : goal.returns-clause-worked
returns-clause-worked g c =
    let lock = c.in-Ok.shared.growing.id in
    let fresh = first_fresh lock c.args.cluster.journal (frame_of c.args.cluster) c.in-Ok.passes.items _ c.split_first-pass.result.0 c.split_first-pass.ensures c.in-Ok.ensures.fresh in
    IfOk-weaker c.work_and_close.result _ _
    (λ r h. worked (draft_of c.args.topology.now) c.args.cluster c.in-Ok.shared.growing.first r.0.cluster c.args.intake _ _ _ r.0.end c.requires.ready.new c.in-Ok.ensures.first (fresh_seen g.W.Work.plan lock c.args.cluster 0 c.split_first-pass.result.0 fresh) refl refl h)
    c.work_and_close.ensures.fed
