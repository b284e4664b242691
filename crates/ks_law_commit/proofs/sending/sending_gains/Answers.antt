use Rattle.ks_law_commit.proofs.Stages.{sending_gains}
use Rattle.ks_law_commit.proofs.sending.sending_gains.Goals as goal

pub returns : goal.returns
returns c = sending_gains
