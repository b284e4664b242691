use Rattle.ks_law_exactly_once.proofs.Replays.{settled_is_empty}
use Rattle.ks_law_exactly_once.proofs.laws.settled_is_empty.Goals as goal

pub returns : goal.returns
returns c = settled_is_empty
