use Rattle.ks_law_restore.proofs.Taking.{taking_stands}
use Rattle.ks_law_restore.proofs.laws.taking_stands.Goals as goal

pub returns : goal.returns
returns c = taking_stands
