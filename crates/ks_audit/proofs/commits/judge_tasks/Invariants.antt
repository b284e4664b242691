use Rattle.std.proofs.Common.{length}
use Rattle.ks_topo.specs.Topologies.{draft_of}
use Rattle.ks_cluster.specs.View.{setup_of}
use Rattle.ks_audit.specs.Playing.{AreSplit}
use Rattle.ks_audit.proofs.commits.judge_tasks.Given as goal

abbrev pub invariant-loop-place : goal.invariant-loop-place
invariant-loop-place g l = AreSplit (draft_of l.topology) (setup_of g.W.Work.plan l.cluster) l.cluster.journal l.open (length l.fn.tasks.items) l.place l.tasks.items
