use Rattle.ks_law_restore.proofs.Lasting.{replica_stands}
use Rattle.ks_law_restore.proofs.laws.replica_stands.Goals as goal

pub returns : goal.returns
returns c = replica_stands
