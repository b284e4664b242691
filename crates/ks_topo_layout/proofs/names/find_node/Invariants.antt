use Rattle.std.proofs.Common.{◌≡◌, ◌+◌, drop}
use Rattle.ks_plan.specs.Drafts.{nodes_view}
use Rattle.ks_plan.specs.Plan.{name_place}
use Rattle.ks_plan.specs.Faults.{names_of}
use Rattle.ks_topo_layout.proofs.names.find_node.Given as goal

-- the rest decides
abbrev pub invariant-loop-node : goal.invariant-loop-node
invariant-loop-node l = record { found : l.place + name_place (names_of (nodes_view (drop l.node-index l.nodes))) l.name ≡ name_place (names_of (nodes_view l.nodes)) l.name; count : l.place ≡ l.node-index }
