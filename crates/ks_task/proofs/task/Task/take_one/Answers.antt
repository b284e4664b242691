use Rattle.std.proofs.Common.{List, map, ◌∙◌, ap, sym, subst}
use Rattle.ks_record.specs.Records.{record_seen}
use Rattle.ks_plan.specs.Layout.{topic_at}
use Rattle.ks_topo.specs.Topologies.{plan_in}
use Rattle.ks_def_tasks.specs.Rules.{rules_of}
use Rattle.ks_law_topology.specs.Work.{work_of}
use Rattle.ks_task_nodes.specs.declared.processor.ProcessorNode.{ProcessorNode}
use Rattle.ks_task_nodes.specs.Nodes.{node_view}
use Rattle.ks_task.specs.Tasks.{task_view}
use Rattle.ks_task.specs.Views.{AreLiveAt}
use Rattle.ks_task.proofs.Taking.{taken_as}
use Rattle.ks_task.proofs.task.Task.take_one.Goals as goal

pub take_by-requires-clause-nodes : goal.take_by-requires-clause-nodes
take_by-requires-clause-nodes g c = ap (λ (ns : List ProcessorNode). map node_view ns) c.as_slice-nodes.ensures.value ∙ c.in_ok-nodes.ensures

pub take_by-requires-clause-live : goal.take_by-requires-clause-live
take_by-requires-clause-live g c = subst (λ live. AreLiveAt c.as_slice-nodes.result.now (topic_at (plan_in c.args.topology.now) c.args.topic) live) (sym c.as_slice-live.ensures.value) c.in_ok-live.ensures

pub returns-clause-view : goal.returns-clause-view
returns-clause-view g c =
    taken_as c.take_by.result (work_of (rules_of g.H.Hash128.hash_of) (plan_in c.args.topology.now)) c.args.topic c.args.offset (task_view c.args.self.now) (task_view c.take_by.new.self) (record_seen c.as_ref-rec.result) c.args.rec.now
    c.as_ref-rec.ensures c.take_by.ensures.view
