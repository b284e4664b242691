use Rattle.std.proofs.Common.{◌≡◌, drop}
use Rattle.ks_plan.specs.Drafts.{nodes_view}
use Rattle.ks_plan.specs.Faults.{has_name, names_of}
use Rattle.ks_topo_layout.proofs.names.is_node.Given as goal

-- the rest decides
abbrev pub invariant-loop-node : goal.invariant-loop-node
invariant-loop-node l = has_name (names_of (nodes_view (drop l.node-index l.nodes))) l.name ≡ has_name (names_of (nodes_view l.nodes)) l.name
