use Rattle.ks_topo.specs.Topologies.{draft_of}
use Rattle.ks_settle.specs.Drained.{IsDraining, caches_in}
use Rattle.ks_settle.proofs.draining.TaskManager.drain_all.Given as goal

-- the topics so far were drained, by tasks of the same caches
abbrev pub invariant-loop-i : goal.invariant-loop-i
invariant-loop-i g l = IsDraining g.W.Work.plan l.fn.cluster l.cluster l.self.publisher (draft_of l.topology) (caches_in l.fn.self.tasks.items) l.order l.i l.self.tasks.items
