use Rattle.ks_law_restore.proofs.Lasting.{longer_stands}
use Rattle.ks_law_restore.proofs.laws.longer_stands.Goals as goal

pub returns : goal.returns
returns c = longer_stands
