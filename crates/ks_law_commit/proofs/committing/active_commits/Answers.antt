use Rattle.ks_law_commit.proofs.Commits.{active_commits}
use Rattle.ks_law_commit.proofs.committing.active_commits.Goals as goal

pub returns : goal.returns
returns c = active_commits
