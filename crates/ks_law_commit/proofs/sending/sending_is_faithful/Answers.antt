use Rattle.ks_law_commit.proofs.Stages.{sending_is_faithful}
use Rattle.ks_law_commit.proofs.sending.sending_is_faithful.Goals as goal

pub returns : goal.returns
returns c = sending_is_faithful
