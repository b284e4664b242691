use Rattle.ks_law_accepted.proofs.Accepted as accepted
use Rattle.ks_law_accepted.proofs.nothing_is_refused.Goals as goal

pub returns : goal.returns
returns c = accepted.nothing_is_refused
