use Rattle.std.proofs.Common.{◌≡◌, List, map, ap, ◌∙◌}
use Rattle.ks_plan.specs.declared.node.TopicInfo.{TopicInfo}
use Rattle.ks_topo.specs.Topologies.{draft_of}
use Rattle.ks_cluster.specs.View.{ClusterView}
use Rattle.ks_audit.proofs.Beginning.{setup_made, begun}
use Rattle.ks_audit.proofs.audit.begin.Goals as goal

pub new-requires : goal.new-requires
new-requires g c =
    setup_made g.H.Hash128.hash_of (draft_of c.args.topology.now) (g.W.Work.plan c.args.work) c.in_ok-counts.counts.items c.in_ok-names.names.items c.nodes-nodes.ensures.well_formed c.requires.plans
    (c.in_ok-counts.ensures ∙ ap (map (λ (i : TopicInfo). i.parts)) c.topics-infos.ensures) (c.in_ok-names.ensures.items ∙ c.tasks-all.ensures)

pub returns-clause-played : goal.returns-clause-played
returns-clause-played g c =
    let d = draft_of c.args.topology.now in
    begun g.W.Work.plan g.W.Work.good g.H.Hash128.hash_of d _ c.args.work c.in_ok-counts.counts.items c.in_ok-names.names.items c.nodes-nodes.ensures.well_formed c.in_ok-cluster.ensures c.requires.plans
    (c.in_ok-counts.ensures ∙ ap (map (λ (i : TopicInfo). i.parts)) c.topics-infos.ensures) (c.in_ok-names.ensures.items ∙ c.tasks-all.ensures) c.requires.same
    (c.in_ok-known.ensures ∙ ap (map (λ (i : TopicInfo). i.parts)) c.topics-infos.ensures) (c.in_ok-named.ensures.items ∙ c.tasks-all.ensures)
    c.requires.all_good c.in_ok-ledger.ensures c.in_ok-tasks.ensures.names (c.in_ok-tasks.ensures.audited g.H.Hash128.hash_of)

pub returns-clause-empty : goal.returns-clause-empty
returns-clause-empty g c = ap (λ (k : ClusterView _). k.journal) c.in_ok-cluster.ensures
