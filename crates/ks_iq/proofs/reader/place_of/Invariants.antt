use Rattle.ks_iq.proofs.OwnReplicas.{PlacedFrom}
use Rattle.ks_iq.proofs.reader.place_of.Given as goal

-- those that are left decide
abbrev pub invariant-loop-i : goal.invariant-loop-i
invariant-loop-i l = PlacedFrom l.task l.replicas l.i
