use Rattle.std.proofs.Common.{take}
use Rattle.ks_assign.specs.Steps.{IsPlan}
use Rattle.ks_assign.proofs.placing.place.Given as goal

abbrev pub invariant-loop-t : goal.invariant-loop-t
invariant-loop-t l = IsPlan (take l.t-index l.tasks) l.clients l.held l.most l.places.items
