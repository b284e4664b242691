use Rattle.ks_law_commit.proofs.Keeping.{way_keeps_held}
use Rattle.ks_law_commit.proofs.holding.way_keeps_held.Goals as goal

pub returns : goal.returns
returns c = way_keeps_held
