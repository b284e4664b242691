use Rattle.ks_law_commit.proofs.Stages.{sending_refused}
use Rattle.ks_law_commit.proofs.sending.sending_refused.Goals as goal

pub returns : goal.returns
returns c = sending_refused
