use Rattle.ks_law_restore.proofs.Replicas.{restored_stands}
use Rattle.ks_law_restore.proofs.laws.restored_stands.Goals as goal

pub returns : goal.returns
returns c = restored_stands
