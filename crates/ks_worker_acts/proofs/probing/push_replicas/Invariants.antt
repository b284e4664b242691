use Rattle.std.proofs.Common.{◌≡◌, ◌++◌, take}
use Rattle.ks_worker_acts.specs.Telling.{replica_positions}
use Rattle.ks_worker_acts.proofs.probing.push_replicas.Given as goal

-- the replicas so far stand there
abbrev pub invariant-loop-i : goal.invariant-loop-i
invariant-loop-i l = l.held.items ≡ l.fn.held.items ++ replica_positions (take l.i l.replicas)
