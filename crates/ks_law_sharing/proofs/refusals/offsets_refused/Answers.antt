use Rattle.ks_law_sharing.proofs.Refusing.{offsets_refused}
use Rattle.ks_law_sharing.proofs.refusals.offsets_refused.Goals as goal

pub returns : goal.returns
returns c = offsets_refused
