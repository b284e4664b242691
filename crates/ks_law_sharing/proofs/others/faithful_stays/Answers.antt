use Rattle.ks_law_sharing.proofs.Deciding.{faithful_stays}
use Rattle.ks_law_sharing.proofs.others.faithful_stays.Goals as goal

pub returns : goal.returns
returns c = faithful_stays
