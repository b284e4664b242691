use Rattle.std.proofs.Common.{length}
use Rattle.ks_topo.specs.Topologies.{draft_of}
use Rattle.ks_cluster.specs.View.{setup_of}
use Rattle.ks_audit_commit.specs.Judging.{HasPassed}
use Rattle.ks_audit_commit.proofs.ordering.pass_all.Given as goal

abbrev pub invariant-loop-rest : goal.invariant-loop-rest
invariant-loop-rest g l = HasPassed (draft_of l.topology) (setup_of g.W.Work.plan l.cluster) l.cluster.journal l.pending l.rest l.task

abbrev pub decreases-loop-rest : goal.decreases-loop-rest
decreases-loop-rest g l = length l.rest
