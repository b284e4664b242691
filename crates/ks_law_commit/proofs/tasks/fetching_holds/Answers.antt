use Rattle.ks_law_commit.proofs.Held.{fetching_holds}
use Rattle.ks_law_commit.proofs.tasks.fetching_holds.Goals as goal

pub returns : goal.returns
returns c = fetching_holds
