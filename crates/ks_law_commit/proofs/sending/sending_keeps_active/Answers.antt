use Rattle.ks_law_commit.proofs.Stages.{sending_keeps_active}
use Rattle.ks_law_commit.proofs.sending.sending_keeps_active.Goals as goal

pub returns : goal.returns
returns c = sending_keeps_active
