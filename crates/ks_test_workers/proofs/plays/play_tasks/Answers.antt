use Rattle.std.proofs.Common.{◌∙◌, ap, map, sym, subst, arith}
use Rattle.std.specs.Prelude.{Some, [], ◌∷◌}
use Rattle.ks_plan.specs.declared.node.TopicInfo.{TopicInfo}
use Rattle.ks_plan.specs.Plan.{plan_of}
use Rattle.ks_topo.specs.Topologies.{draft_of}
use Rattle.ks_job.specs.Items.{item_views}
use Rattle.ks_cluster.specs.View as kept
use Rattle.ks_commit.specs.Everything.{everything, IsGoodForAll}
use Rattle.ks_task.specs.Placing.{placed_by}
use Rattle.ks_job_source.proofs.Counts.{shown_counts}
use Rattle.ks_run_end.proofs.Drained.{nodes_ready}
use Rattle.ks_run.proofs.Settles.{setup_is, setup_made, places_ready, records_ready}
use Rattle.ks_test_workers.proofs.plays.play_tasks.Goals as goal

pub new-requires : goal.new-requires
new-requires g c =
    let d = draft_of c.args.topology.now in
    let hash = g.H.Hash128.hash_of in
    let counts = c.in-Ok.ensures ∙ (ap (map (λ (i : TopicInfo). i.parts)) c.topics.ensures ∙ shown_counts d) in
    setup_made hash d _
    (setup_is hash d (g.W.Work.plan c.args.work) c.in-Ok.counts.items c.in-Ok-from_slice.tasks.items c.requires.work counts (c.in-Ok-from_slice.ensures.items ∙ c.tasks.ensures))
    c.nodes-nodes.ensures.well_formed

pub play-cluster-requires : goal.play-cluster-requires
play-cluster-requires g c =
    let d = draft_of c.args.topology.now in
    let hash = g.H.Hash128.hash_of in
    let counts = c.in-Ok.ensures ∙ (ap (map (λ (i : TopicInfo). i.parts)) c.topics.ensures ∙ shown_counts d) in
    let empty = c.in-Ok-new.empty in
    let work = ap (λ k. g.W.Work.plan k.work) c.in-Ok-new.ensures ∙ c.requires.work in
    record {
      ready = record {
        new = ap (λ k. k.journal) c.in-Ok-new.ensures;
        topology = ap (λ k. kept.setup_of g.W.Work.plan k) c.in-Ok-new.ensures
            ∙ setup_is hash d (g.W.Work.plan c.args.work) c.in-Ok.counts.items c.in-Ok-from_slice.tasks.items c.requires.work counts (c.in-Ok-from_slice.ensures.items ∙ c.tasks.ensures);
        nodes = nodes_ready d c.nodes-nodes.ensures.well_formed c.requires.partitions;
        threads = c.requires.threads;
        test = ap (λ k. g.W.Work.good k.work) c.in-Ok-new.ensures ∙ c.requires.good;
        counts_are = sym counts ∙ sym (ap (λ k. k.counts) c.in-Ok-new.ensures);
        places = places_ready hash d (g.W.Work.plan empty.work) c.nodes-nodes.ensures.well_formed c.requires.partitions work;
        records = records_ready hash d (g.W.Work.plan empty.work) (item_views c.args.records.items) work c.requires.records;
      };
    }

pub end_play-requires-clause-setup : goal.end_play-requires-clause-setup
end_play-requires-clause-setup g c κs within =
    let d = draft_of c.args.topology.now in
    let hash = g.H.Hash128.hash_of in
    let counts = c.in-Ok.ensures ∙ (ap (map (λ (i : TopicInfo). i.parts)) c.topics.ensures ∙ shown_counts d) in
    ap (λ f. kept.setup_from (g.W.Work.plan f.work) f.counts f.tasks) c.play-cluster.ensures
    ∙ (ap (λ k. kept.setup_of g.W.Work.plan k) c.in-Ok-new.ensures
    ∙ setup_is hash d (g.W.Work.plan c.args.work) c.in-Ok.counts.items c.in-Ok-from_slice.tasks.items c.requires.work counts (c.in-Ok-from_slice.ensures.items ∙ c.tasks.ensures))

pub end_play-requires-clause-parts : goal.end_play-requires-clause-parts
end_play-requires-clause-parts g c κs within = nodes_ready (draft_of c.args.topology.now) c.nodes-nodes.ensures.well_formed c.requires.partitions

pub end_play-requires-clause-alone : goal.end_play-requires-clause-alone
end_play-requires-clause-alone g c κs within =
    let d = draft_of c.args.topology.now in
    let tasks_are = ap (λ f. f.tasks) c.play-cluster.ensures ∙ (ap (λ k. k.tasks) c.in-Ok-new.ensures ∙ (c.in-Ok-from_slice.ensures.items ∙ c.tasks.ensures)) in
    let good_is = ap (λ f. g.W.Work.good f.work) c.play-cluster.ensures ∙ (ap (λ k. g.W.Work.good k.work) c.in-Ok-new.ensures ∙ c.requires.good) in
    subst (λ t. IsGoodForAll t (16 ∷ []) (everything 16 c.play-cluster.result.tasks)) (sym good_is)
    (subst (λ ts. IsGoodForAll (placed_by (plan_of d) (Some c.args.scene.now.placing)) (16 ∷ []) (everything 16 ts)) (sym tasks_are) (c.everything_is_good.ensures d (Some c.args.scene.now.placing) 16 c.nodes-nodes.ensures.well_formed c.requires.threads (omega arith)))

pub end_play-requires-clause-counts : goal.end_play-requires-clause-counts
end_play-requires-clause-counts g c κs within =
    let d = draft_of c.args.topology.now in
    let counts = c.in-Ok.ensures ∙ (ap (map (λ (i : TopicInfo). i.parts)) c.topics.ensures ∙ shown_counts d) in
    ap (λ f. f.counts) c.play-cluster.ensures ∙ (ap (λ k. k.counts) c.in-Ok-new.ensures ∙ counts)
