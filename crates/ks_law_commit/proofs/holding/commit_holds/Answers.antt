use Rattle.ks_law_commit.proofs.Keeping.{commit_holds}
use Rattle.ks_law_commit.proofs.holding.commit_holds.Goals as goal

pub returns : goal.returns
returns c = commit_holds
