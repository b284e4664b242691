use Rattle.ks_law_commit.proofs.Numbering.{nothing_is_remembered}
use Rattle.ks_law_commit.proofs.producers.nothing_is_remembered.Goals as goal

pub returns : goal.returns
returns c = nothing_is_remembered
