use Rattle.std.proofs.Common.{List, ap, ◌∙◌}
use Rattle.std.proofs.lemmas.Result.{IfOk-weaker}
use Rattle.ks_topo.specs.Topologies.{draft_of}
use Rattle.ks_task_nodes.specs.declared.topics.NodeTopics.{NodeTopics}
use Rattle.ks_task_nodes.specs.Nodes.{with_kinds}
use Rattle.ks_task.proofs.Building.{nodes_are}
use Rattle.ks_task.proofs.task.Task.own_nodes.Goals as goal

pub returns : goal.returns
returns c = IfOk-weaker c.processor_nodes.result _ _
    (λ v e. e ∙ (ap (λ (ts : List NodeTopics). with_kinds ts c.topics.result.now c.nodes.result.now) (c.deref.ensures.value ∙ c.requires.nodes_are)
    ∙ nodes_are (draft_of c.args.topology.now) c.nodes.ensures.well_formed c.nodes.result.now c.nodes.ensures.places c.nodes.ensures.drafts c.topics.result.now c.topics.ensures c.args.self.now.id.sub))
    c.processor_nodes.ensures
