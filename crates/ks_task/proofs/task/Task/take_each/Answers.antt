use Rattle.std.proofs.Common.{◌≡◌, true, List, map, ◌∙◌, ap, sym, subst}
use Rattle.ks_record.specs.declared.record.TaskId.{TaskId}
use Rattle.ks_plan.specs.Layout.{topic_at}
use Rattle.ks_plan.specs.Infos.{input_numbers}
use Rattle.ks_history.specs.Follows.{TaskView}
use Rattle.ks_history.specs.Machine.{has_topic}
use Rattle.ks_law_topology.specs.Work.{work_of}
use Rattle.ks_law_restore.specs.Views.{take_view}
use Rattle.ks_topo.specs.Topologies.{plan_in}
use Rattle.ks_task_nodes.specs.declared.processor.ProcessorNode.{ProcessorNode}
use Rattle.ks_task_nodes.specs.Nodes.{node_view, nodes_of}
use Rattle.ks_def_tasks.specs.Rules.{rules_of}
use Rattle.ks_task.specs.Tasks.{task_view}
use Rattle.ks_task.specs.Views.{AreLiveAt}
use Rattle.ks_task.proofs.Taking.{one_record_more}
use Rattle.ks_task.proofs.task.Task.take_each.Goals as goal

pub take_by-requires-clause-nodes : goal.take_by-requires-clause-nodes
take_by-requires-clause-nodes g c =
    ap (λ (ns : List ProcessorNode). map node_view ns) c.as_slice-nodes.ensures.value ∙ c.in_ok-nodes.ensures ∙ ap (λ (t : TaskId). nodes_of (plan_in c.args.topology.now) t.sub) (sym c.loop-i.invariant.id)

pub take_by-requires-clause-live : goal.take_by-requires-clause-live
take_by-requires-clause-live g c = subst (λ live. AreLiveAt c.as_slice-nodes.result.now (topic_at (plan_in c.args.topology.now) c.args.topic) live) (sym c.as_slice-live.ensures.value) c.in_ok-live.ensures

pub take_by-requires-clause-input : goal.take_by-requires-clause-input
take_by-requires-clause-input g c = subst (λ (t : TaskId). has_topic c.args.topic (input_numbers (plan_in c.args.topology.now) t.sub) ≡ true) (sym c.loop-i.invariant.id) c.requires.input

pub loop-i-preserved : goal.loop-i-preserved
loop-i-preserved g c = record {
  task = c.in_ok-take_by.ensures.task;
  id = ap (λ (v : TaskView). v.task) c.in_ok-take_by.ensures.view ∙ c.loop-i.invariant.id;
  cache = c.take_by.ensures.cache ∙ c.loop-i.invariant.cache;
  view = one_record_more (work_of (rules_of g.H.Hash128.hash_of) (plan_in c.args.topology.now)) c.args.topic (task_view c.args.self.now) (task_view c.loop-i.self) (task_view c.take_by.new.self) c.args.recs.now c.loop-i.i c.index-recs-i.result
      c.loop-i-test.true c.index-recs-i.is c.loop-i.invariant.view
      (c.in_ok-take_by.ensures.view ∙ ap (take_view (work_of (rules_of g.H.Hash128.hash_of) (plan_in c.args.topology.now)) (task_view c.loop-i.self) c.args.topic c.index-recs-i.result.0) c.as_ref.ensures);
}
