use Rattle.ks_law_commit.proofs.Numbering.{decision_is_remembered}
use Rattle.ks_law_commit.proofs.producers.decision_is_remembered.Goals as goal

pub returns : goal.returns
returns c = decision_is_remembered
