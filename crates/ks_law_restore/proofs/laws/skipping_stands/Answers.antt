use Rattle.ks_law_restore.proofs.Taking.{skipping_stands}
use Rattle.ks_law_restore.proofs.laws.skipping_stands.Goals as goal

pub returns : goal.returns
returns c = skipping_stands
