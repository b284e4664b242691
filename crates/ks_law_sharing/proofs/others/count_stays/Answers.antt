use Rattle.ks_law_sharing.proofs.Leaving.{count_stays}
use Rattle.ks_law_sharing.proofs.others.count_stays.Goals as goal

pub returns : goal.returns
returns c = count_stays
