use Rattle.ks_law_restore.proofs.Lasting.{fresh_follows}
use Rattle.ks_law_restore.proofs.laws.fresh_follows.Goals as goal

pub returns : goal.returns
returns c = fresh_follows
