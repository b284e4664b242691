use Rattle.std.proofs.Common.{◌≡◌, drop}
use Rattle.ks_assign.specs.Placement.{employs}
use Rattle.ks_assign.proofs.spreading.even_worker.Given as goal

abbrev pub invariant-loop-c : goal.invariant-loop-c
invariant-loop-c l = employs l.worker (drop l.c-index l.clients) ≡ employs l.worker l.clients
