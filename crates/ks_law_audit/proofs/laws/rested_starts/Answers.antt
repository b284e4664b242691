use Rattle.ks_law_audit.proofs.Resting.{rested_starts}
use Rattle.ks_law_audit.proofs.laws.rested_starts.Goals as goal

pub returns : goal.returns
returns c = rested_starts
