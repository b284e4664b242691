use Rattle.std.proofs.Common.{◌≡◌, ◌++◌, map, drop}
use Rattle.ks_task_nodes.specs.Nodes.{node_view}
use Rattle.ks_task_processing.specs.Steps.{asked_by}
use Rattle.ks_task_step.proofs.foreign.push_subscriptions.Given as goal

abbrev pub invariant-loop-foreign : goal.invariant-loop-foreign
invariant-loop-foreign l = l.out ++ map (asked_by (node_view l.node) l.time) (drop l.foreign-index l.asked) ≡ l.initial.out ++ map (asked_by (node_view l.node) l.time) l.asked
