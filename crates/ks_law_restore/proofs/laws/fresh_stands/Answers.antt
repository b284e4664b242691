use Rattle.ks_law_restore.proofs.Freezing.{fresh_stands}
use Rattle.ks_law_restore.proofs.laws.fresh_stands.Goals as goal

pub returns : goal.returns
returns c = fresh_stands
