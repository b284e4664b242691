use Rattle.ks_law_commit.proofs.Bounds.{replica_is_within}
use Rattle.ks_law_commit.proofs.positions.replica_is_within.Goals as goal

pub returns : goal.returns
returns c = replica_is_within
