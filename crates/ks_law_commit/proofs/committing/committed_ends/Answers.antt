use Rattle.ks_law_commit.proofs.Ends.{committed_ends}
use Rattle.ks_law_commit.proofs.committing.committed_ends.Goals as goal

pub returns : goal.returns
returns c = committed_ends
