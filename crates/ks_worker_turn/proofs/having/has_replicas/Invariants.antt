use Rattle.std.proofs.Common.{take}
use Rattle.ks_worker_state.specs.Names.{replica_names}
use Rattle.ks_worker_turn.specs.Held.{AreHeld}
use Rattle.ks_worker_turn.specs.Places.{has_place}
use Rattle.ks_worker_turn.proofs.having.has_replicas.Given as goal

-- of each place so far the replica is there
abbrev pub invariant-loop-i : goal.invariant-loop-i
invariant-loop-i l = AreHeld (λ u. has_place u l.number (take l.i l.places)) (replica_names l.replicas)
