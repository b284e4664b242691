use Rattle.std.proofs.Common.{◌≡◌, [], length}
use Rattle.serde_json.specs.View.{items_view}
use Rattle.ks_job_topology.specs.Nodes.{nodes_from}
use Rattle.ks_plan.specs.Drafts.{nodes_view}
use Rattle.ks_job_topology.proofs.node.read_node_list.Given as goal

abbrev pub invariant-loop-rest : goal.invariant-loop-rest
invariant-loop-rest l = nodes_from (nodes_view l.nodes.items) (items_view l.rest) ≡ nodes_from [] (items_view l.values)

abbrev pub decreases-loop-rest : goal.decreases-loop-rest
decreases-loop-rest l = length l.rest
