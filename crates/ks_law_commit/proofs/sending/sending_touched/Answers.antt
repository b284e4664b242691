use Rattle.ks_law_commit.proofs.Stages.{sending_touched}
use Rattle.ks_law_commit.proofs.sending.sending_touched.Goals as goal

pub returns : goal.returns
returns c = sending_touched
