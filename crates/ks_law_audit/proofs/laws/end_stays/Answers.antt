use Rattle.ks_law_audit.proofs.Behind.{end_stays}
use Rattle.ks_law_audit.proofs.laws.end_stays.Goals as goal

pub returns : goal.returns
returns c = end_stays
