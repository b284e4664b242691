use Rattle.ks_law_commit.proofs.Stages.{sending_commits}
use Rattle.ks_law_commit.proofs.sending.sending_commits.Goals as goal

pub returns : goal.returns
returns c = sending_commits
