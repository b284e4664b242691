use Rattle.ks_law_restore.proofs.Replicas.{replica_starts}
use Rattle.ks_law_restore.proofs.laws.replica_starts.Goals as goal

pub returns : goal.returns
returns c = replica_starts
