use Rattle.ks_law_commit.proofs.Held.{held_stays}
use Rattle.ks_law_commit.proofs.tasks.held_stays.Goals as goal

pub returns : goal.returns
returns c = held_stays
