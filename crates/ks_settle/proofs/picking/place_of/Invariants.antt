use Rattle.std.specs.Prelude.{IfSome}
use Rattle.ks_settle.specs.Picking.{StandsAt}
use Rattle.ks_settle.proofs.picking.place_of.Given as goal

-- what was found is of the task
abbrev pub invariant-loop-i : goal.invariant-loop-i
invariant-loop-i l = IfSome l.found (StandsAt l.replicas l.task)
