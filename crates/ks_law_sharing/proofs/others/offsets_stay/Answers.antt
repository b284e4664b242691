use Rattle.ks_law_sharing.proofs.Rising.{offsets_stay}
use Rattle.ks_law_sharing.proofs.others.offsets_stay.Goals as goal

pub returns : goal.returns
returns c = offsets_stay
