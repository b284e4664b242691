use Rattle.ks_law_commit.proofs.Numbering.{refusal_is_remembered}
use Rattle.ks_law_commit.proofs.producers.refusal_is_remembered.Goals as goal

pub returns : goal.returns
returns c = refusal_is_remembered
