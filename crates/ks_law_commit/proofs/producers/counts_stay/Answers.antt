use Rattle.ks_law_commit.proofs.Numbering.{counts_stay}
use Rattle.ks_law_commit.proofs.producers.counts_stay.Goals as goal

pub returns : goal.returns
returns c = counts_stay
