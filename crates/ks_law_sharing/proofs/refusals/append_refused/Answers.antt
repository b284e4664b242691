use Rattle.ks_law_sharing.proofs.Refusing.{append_refused}
use Rattle.ks_law_sharing.proofs.refusals.append_refused.Goals as goal

pub returns : goal.returns
returns c = append_refused
