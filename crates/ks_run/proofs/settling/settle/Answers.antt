use Rattle.std.proofs.Common.{map, refl}
use Rattle.ks_plan.specs.declared.node.TopicInfo.{TopicInfo}
use Rattle.ks_plan.specs.Infos.{topic_infos}
use Rattle.ks_plan.specs.Layout.{tasks}
use Rattle.ks_plan.specs.Plan.{plan_of}
use Rattle.ks_topo.specs.Topologies.{draft_of}
use Rattle.ks_job_source.proofs.Counts.{shown_counts}
use Rattle.ks_run_feed.specs.Wanted.{placing_of}
use Rattle.ks_run.proofs.Settles.{setup_is, setup_made, has_begun}
use Rattle.ks_run.proofs.settling.settle.Goals as goal

pub begin-requires : goal.begin-requires
begin-requires g c =
    let d = draft_of c.args.topology.now in
    let hash = g.H.Hash128.hash_of in
    setup_made hash d _ (setup_is hash d (g.W.Work.plan c.args.work) (map (λ (i : TopicInfo). i.parts) (topic_infos d)) (tasks (plan_of d)) c.requires.work (shown_counts d) refl) c.nodes-nodes.ensures.well_formed

pub run_begun-requires-clause-begun : goal.run_begun-requires-clause-begun
run_begun-requires-clause-begun g c κs within =
    has_begun g.H.Hash128.hash_of g.W.Work.plan g.W.Work.good (placing_of c.args.crew.settings) (draft_of c.args.topology.now) c.args.work c.in-Ok.empty (rw c.in-Ok.is at c.begin.ensures) c.requires.work c.requires.placing
