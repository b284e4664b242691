use Rattle.ks_topo.specs.Topologies.{draft_of}
use Rattle.ks_settle.specs.Drained.{AreToldTo}
use Rattle.ks_settle.proofs.committed.tell.Given as goal

-- the tasks so far were told
abbrev pub invariant-loop-i : goal.invariant-loop-i
invariant-loop-i l = AreToldTo (draft_of l.topology) l.worked l.ends l.i l.fn.tasks.items l.tasks.items
