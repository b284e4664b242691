use Rattle.ks_law_restore.proofs.Lasting.{last_is_past}
use Rattle.ks_law_restore.proofs.laws.last_is_past.Goals as goal

pub returns : goal.returns
returns c = last_is_past
