use Rattle.ks_law_commit.proofs.Keeping.{sending_has_seen}
use Rattle.ks_law_commit.proofs.holding.sending_has_seen.Goals as goal

pub returns : goal.returns
returns c = sending_has_seen
