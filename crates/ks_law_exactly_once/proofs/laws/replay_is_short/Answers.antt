use Rattle.ks_law_exactly_once.proofs.Counts.{is_short}
use Rattle.ks_law_exactly_once.proofs.laws.replay_is_short.Goals as goal

pub returns : goal.returns
returns c = is_short
