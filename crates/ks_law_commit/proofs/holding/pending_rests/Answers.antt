use Rattle.ks_law_commit.proofs.Keeping.{pending_rests}
use Rattle.ks_law_commit.proofs.holding.pending_rests.Goals as goal

pub returns : goal.returns
returns c = pending_rests
