use Rattle.std.proofs.Common.{◌≡◌, ◌++◌, drop}
use Rattle.std.specs.List.{flat_map}
use Rattle.ks_def_tasks.specs.Step.{send_responses}
use Rattle.ks_task_nodes.specs.Nodes.{node_view}
use Rattle.ks_task_processing.specs.Steps.{sent_by}
use Rattle.ks_task_step.proofs.foreign.push_responses.Given as goal

abbrev pub invariant-loop-left : goal.invariant-loop-left
invariant-loop-left l = l.out ++ flat_map (sent_by (node_view l.node) l.time) (send_responses l.node.topics.number (drop l.left-index l.responses)) ≡ l.initial.out ++ flat_map (sent_by (node_view l.node) l.time) (send_responses l.node.topics.number l.responses)
