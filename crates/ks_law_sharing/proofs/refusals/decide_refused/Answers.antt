use Rattle.ks_law_sharing.proofs.Refusing.{decide_refused}
use Rattle.ks_law_sharing.proofs.refusals.decide_refused.Goals as goal

pub returns : goal.returns
returns c = decide_refused
