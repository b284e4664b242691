use Rattle.ks_topo.specs.Topologies.{draft_of}
use Rattle.ks_cluster.specs.View.{setup_of}
use Rattle.ks_settle.specs.Restored.{ArePutBack}
use Rattle.ks_settle.proofs.restoring.restore_tasks.Given as goal

-- the tasks so far stand in their order, and what came of the others is left
abbrev pub invariant-loop-one : goal.invariant-loop-one
invariant-loop-one g l = ArePutBack (draft_of l.topology) (setup_of g.W.Work.plan l.cluster) l.cluster.journal l.cluster.tasks l.cache l.tasks.items l.one-iterator.rest.items
