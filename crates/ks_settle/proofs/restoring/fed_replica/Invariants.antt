use Rattle.ks_cluster.specs.View.{setup_of}
use Rattle.ks_settle.specs.Restoring.{HasReachedFirst}
use Rattle.ks_settle.proofs.restoring.fed_replica.Given as goal

-- the ends of those so far are reached
abbrev pub invariant-loop-i : goal.invariant-loop-i
invariant-loop-i g l = HasReachedFirst (setup_of g.W.Work.plan l.cluster) l.cluster.journal l.fn.task l.changelogs l.i l.replica
