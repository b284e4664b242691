use Rattle.ks_law_audit.proofs.Resting.{rested_stays}
use Rattle.ks_law_audit.proofs.laws.rested_stays.Goals as goal

pub returns : goal.returns
returns c = rested_stays
