use Rattle.ks_law_commit.proofs.Keeping.{way_is_sending}
use Rattle.ks_law_commit.proofs.holding.way_is_sending.Goals as goal

pub returns : goal.returns
returns c = way_is_sending
