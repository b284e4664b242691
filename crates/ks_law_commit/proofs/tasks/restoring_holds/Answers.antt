use Rattle.ks_law_commit.proofs.Held.{restoring_holds}
use Rattle.ks_law_commit.proofs.tasks.restoring_holds.Goals as goal

pub returns : goal.returns
returns c = restoring_holds
