use Rattle.ks_law_sharing.proofs.Refusing.{add_refused}
use Rattle.ks_law_sharing.proofs.refusals.add_refused.Goals as goal

pub returns : goal.returns
returns c = add_refused
