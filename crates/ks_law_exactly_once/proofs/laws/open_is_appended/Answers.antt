use Rattle.ks_law_exactly_once.proofs.Appending.{open_is_appended}
use Rattle.ks_law_exactly_once.proofs.laws.open_is_appended.Goals as goal

pub returns : goal.returns
returns c = open_is_appended
