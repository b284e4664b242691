use Rattle.ks_topo.specs.Topologies.{draft_of}
use Rattle.ks_cluster.specs.View.{setup_of}
use Rattle.ks_commit.specs.Committed.{works_of}
use Rattle.ks_settle.specs.Drained.{ArePutBack, caches_in}
use Rattle.ks_settle.proofs.draining.read_tasks.Given as goal

-- the tasks that were put back have read the topic, and these are their works; all have their caches
abbrev pub invariant-loop-attempt : goal.invariant-loop-attempt
invariant-loop-attempt g l = ArePutBack (draft_of l.topology) (setup_of g.W.Work.plan l.cluster) l.cluster.journal l.topic (caches_in l.fn.tasks.items) l.tasks.items l.attempt-iterator.rest.items (works_of l.works.items)
