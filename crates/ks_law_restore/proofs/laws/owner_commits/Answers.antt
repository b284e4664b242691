use Rattle.ks_law_restore.proofs.Owning.{owner_commits}
use Rattle.ks_law_restore.proofs.laws.owner_commits.Goals as goal

pub returns : goal.returns
returns c = owner_commits
