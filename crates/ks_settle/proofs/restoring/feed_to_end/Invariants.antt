use Rattle.std.proofs.Common.{◌+◌, cond}
use Rattle.std.specs.Prelude.{◌-◌}
use Rattle.ks_history.specs.Machine.{part_of}
use Rattle.ks_history.specs.Reads.{end_of}
use Rattle.ks_cluster.specs.View.{setup_of, state_of}
use Rattle.ks_standby.specs.Replicas.{replica_view}
use Rattle.ks_settle.proofs.Feeding.{Feeding}
use Rattle.ks_settle.proofs.restoring.feed_to_end.Given as goal

-- how far the replica has come
abbrev pub invariant-loop-moved : goal.invariant-loop-moved
invariant-loop-moved g l = Feeding (setup_of g.W.Work.plan l.cluster) l.cluster.journal l.changelog l.moved l.fn.replica l.replica

abbrev pub decreases-loop-moved : goal.decreases-loop-moved
decreases-loop-moved g l = (end_of (state_of g.W.Work.plan l.cluster) (part_of l.changelog l.fn.replica.id) - (replica_view l.replica).position l.changelog) + cond l.moved 1 0
