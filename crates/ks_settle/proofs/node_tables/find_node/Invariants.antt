use Rattle.std.proofs.Common.{◌≡◌, length}
use Rattle.ks_settle.specs.Rows.{node_named}
use Rattle.ks_settle.proofs.node_tables.find_node.Given as goal

-- the nodes that are left decide
abbrev pub invariant-loop-rest : goal.invariant-loop-rest
invariant-loop-rest l = node_named l.rest l.name ≡ node_named l.nodes l.name

abbrev pub decreases-loop-rest : goal.decreases-loop-rest
decreases-loop-rest l = length l.rest
