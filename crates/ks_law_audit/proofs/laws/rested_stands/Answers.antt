use Rattle.ks_law_audit.proofs.Resting.{rested_stands}
use Rattle.ks_law_audit.proofs.laws.rested_stands.Goals as goal

pub returns : goal.returns
returns c = rested_stands
