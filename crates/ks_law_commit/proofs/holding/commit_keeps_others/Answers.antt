use Rattle.ks_law_commit.proofs.Keeping.{commit_keeps_others}
use Rattle.ks_law_commit.proofs.holding.commit_keeps_others.Goals as goal

pub returns : goal.returns
returns c = commit_keeps_others
