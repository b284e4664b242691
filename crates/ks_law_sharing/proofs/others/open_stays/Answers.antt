use Rattle.ks_law_sharing.proofs.Leaving.{open_stays}
use Rattle.ks_law_sharing.proofs.others.open_stays.Goals as goal

pub returns : goal.returns
returns c = open_stays
