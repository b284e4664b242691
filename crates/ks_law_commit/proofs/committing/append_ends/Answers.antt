use Rattle.ks_law_commit.proofs.Ends.{append_ends}
use Rattle.ks_law_commit.proofs.committing.append_ends.Goals as goal

pub returns : goal.returns
returns c = append_ends
