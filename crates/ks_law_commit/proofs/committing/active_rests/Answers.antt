use Rattle.ks_law_commit.proofs.Commits.{active_rests}
use Rattle.ks_law_commit.proofs.committing.active_rests.Goals as goal

pub returns : goal.returns
returns c = active_rests
