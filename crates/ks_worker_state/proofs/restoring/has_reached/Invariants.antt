use Rattle.std.proofs.Common.{◌≡◌, length}
use Rattle.ks_standby.specs.Replicas.{replica_view}
use Rattle.ks_worker_state.specs.Restoring.{reached_in}
use Rattle.ks_worker_state.proofs.restoring.has_reached.Given as goal

-- the changelogs and ends that are left decide
abbrev pub invariant-loop-topics : goal.invariant-loop-topics
invariant-loop-topics l = reached_in (replica_view l.replica).position l.topics l.left ≡ reached_in (replica_view l.replica).position l.changelogs l.ends

abbrev pub decreases-loop-topics : goal.decreases-loop-topics
decreases-loop-topics l = length l.topics
