use Rattle.ks_law_commit.proofs.Stages.{sending_begins}
use Rattle.ks_law_commit.proofs.sending.sending_begins.Goals as goal

pub returns : goal.returns
returns c = sending_begins
