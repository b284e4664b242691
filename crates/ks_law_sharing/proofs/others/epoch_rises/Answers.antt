use Rattle.ks_law_sharing.proofs.Rising.{epoch_rises}
use Rattle.ks_law_sharing.proofs.others.epoch_rises.Goals as goal

pub returns : goal.returns
returns c = epoch_rises
