use Rattle.ks_law_audit.proofs.Resting.{taken_rests}
use Rattle.ks_law_audit.proofs.laws.taken_rests.Goals as goal

pub returns : goal.returns
returns c = taken_rests
