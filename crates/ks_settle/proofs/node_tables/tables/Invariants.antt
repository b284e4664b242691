use Rattle.std.proofs.Common.{◌≡◌, map, take}
use Rattle.ks_topo.specs.Topologies.{draft_of}
use Rattle.ks_cluster.specs.View.{state_of}
use Rattle.ks_law_settled.specs.Folded.{folded_table}
use Rattle.ks_settle.proofs.node_tables.tables.Given as goal

-- the tables of the names so far
abbrev pub invariant-loop-i : goal.invariant-loop-i
invariant-loop-i g l = l.tables.items ≡ map (folded_table (draft_of l.topology) (state_of g.W.Work.plan l.cluster)) (take l.i l.names)
