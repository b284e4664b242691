use Rattle.ks_topo.specs.Topologies.{draft_of}
use Rattle.ks_cluster.specs.View.{state_of}
use Rattle.ks_settle_report.specs.Hashed.{row_hash}
use Rattle.ks_settle_report.proofs.LeftSides.{IsLeft}
use Rattle.ks_settle_report.proofs.joins.first_in_joins.Given as goal

-- none was found before this node
abbrev pub invariant-loop-place : goal.invariant-loop-place
invariant-loop-place g l = IsLeft (row_hash g.H.Hash128.hash_of) (draft_of l.topology) (state_of g.W.Work.plan l.cluster) l.place
