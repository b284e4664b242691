use Rattle.ks_law_commit.proofs.Keeping.{abort_keeps}
use Rattle.ks_law_commit.proofs.holding.abort_keeps.Goals as goal

pub returns : goal.returns
returns c = abort_keeps
