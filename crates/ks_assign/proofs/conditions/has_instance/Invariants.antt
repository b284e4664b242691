use Rattle.std.proofs.Common.{◌≡◌, drop}
use Rattle.ks_assign.specs.Placement.{has_instance}
use Rattle.ks_assign.proofs.conditions.has_instance.Given as goal

abbrev pub invariant-loop-c : goal.invariant-loop-c
invariant-loop-c l = has_instance l.instance (drop l.c-index l.clients) ≡ has_instance l.instance l.clients
