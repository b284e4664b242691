use Rattle.std.proofs.Common.{map, ap, sym, subst, ◌∙◌}
use Rattle.std.proofs.lemmas.Result.{IfOk-weaker}
use Rattle.ks_plan.specs.declared.node.TopicInfo.{TopicInfo}
use Rattle.ks_plan.specs.Infos.{topic_infos}
use Rattle.ks_topo.specs.Topologies.{draft_of}
use Rattle.ks_history.specs.State.{IsSetup}
use Rattle.ks_cluster.specs.View.{setup_from}
use Rattle.ks_run.proofs.Settles.{begun_is}
use Rattle.ks_run.proofs.settling.begin.Goals as goal

pub new-requires : goal.new-requires
new-requires g c =
    let plan = g.W.Work.plan c.args.work in
    let counts = c.in_ok-counts.ensures ∙ ap (map (λ (i : TopicInfo). i.parts)) c.topics.ensures in
    subst (λ l. IsSetup (setup_from plan l c.in_ok-names.names.items)) (sym counts)
    (subst (λ l. IsSetup (setup_from plan (map (λ (i : TopicInfo). i.parts) (topic_infos (draft_of c.args.topology.now))) l)) (sym (c.in_ok-names.ensures.items ∙ c.tasks.ensures)) c.requires)

pub returns : goal.returns
returns g c =
    let counts = c.in_ok-counts.ensures ∙ ap (map (λ (i : TopicInfo). i.parts)) c.topics.ensures in
    IfOk-weaker c.new.result _ _ (λ k e. begun_is c.args.work k _ _ _ _ counts (c.in_ok-names.ensures.items ∙ c.tasks.ensures) e) c.new.ensures
