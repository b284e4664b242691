use Rattle.ks_law_audit.proofs.Behind.{behind_is_told}
use Rattle.ks_law_audit.proofs.laws.behind_is_told.Goals as goal

pub returns : goal.returns
returns c = behind_is_told
