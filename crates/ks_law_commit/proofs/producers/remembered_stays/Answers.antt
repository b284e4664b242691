use Rattle.ks_law_commit.proofs.Numbering.{remembered_stays}
use Rattle.ks_law_commit.proofs.producers.remembered_stays.Goals as goal

pub returns : goal.returns
returns c = remembered_stays
