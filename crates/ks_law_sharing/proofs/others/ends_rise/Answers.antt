use Rattle.ks_law_sharing.proofs.Rising.{ends_rise}
use Rattle.ks_law_sharing.proofs.others.ends_rise.Goals as goal

pub returns : goal.returns
returns c = ends_rise
