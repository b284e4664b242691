use Rattle.ks_law_commit.proofs.Keeping.{sending_keeps_held}
use Rattle.ks_law_commit.proofs.holding.sending_keeps_held.Goals as goal

pub returns : goal.returns
returns c = sending_keeps_held
