use Rattle.ks_law_commit.proofs.Keeping.{seen_at_last}
use Rattle.ks_law_commit.proofs.holding.seen_at_last.Goals as goal

pub returns : goal.returns
returns c = seen_at_last
