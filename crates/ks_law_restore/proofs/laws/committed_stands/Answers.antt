use Rattle.ks_law_restore.proofs.Committing.{committed_stands}
use Rattle.ks_law_restore.proofs.laws.committed_stands.Goals as goal

pub returns : goal.returns
returns c = committed_stands
