use Rattle.ks_law_commit.proofs.Numbering.{init_is_remembered}
use Rattle.ks_law_commit.proofs.producers.init_is_remembered.Goals as goal

pub returns : goal.returns
returns c = init_is_remembered
