use Rattle.ks_test_cluster.proofs.Good.{good_now}
use Rattle.ks_test_cluster.proofs.calls.assign.Goals as goal

pub assign-outcome-requires-clause-good : goal.assign-outcome-requires-clause-good
assign-outcome-requires-clause-good c stands free = good_now _ _ _ _ stands
