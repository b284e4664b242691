use Rattle.ks_law_sharing.proofs.Leaving.{idle_stays}
use Rattle.ks_law_sharing.proofs.others.idle_stays.Goals as goal

pub returns : goal.returns
returns c = idle_stays
