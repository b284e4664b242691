use Rattle.std.proofs.Common.{◌≡◌, ◌++◌, drop}
use Rattle.std.specs.List.{flat_map}
use Rattle.ks_def_tasks.specs.Step.{send_deltas}
use Rattle.ks_task_nodes.specs.Nodes.{node_view}
use Rattle.ks_task_processing.specs.Steps.{sent_by}
use Rattle.ks_task_step.proofs.sends.push_deltas.Given as goal

abbrev pub invariant-loop-group : goal.invariant-loop-group
invariant-loop-group l = l.out ++ flat_map (sent_by (node_view l.node) l.time) (send_deltas l.node.topics.number (drop l.group-index l.deltas)) ≡ l.initial.out ++ flat_map (sent_by (node_view l.node) l.time) (send_deltas l.node.topics.number l.deltas)
