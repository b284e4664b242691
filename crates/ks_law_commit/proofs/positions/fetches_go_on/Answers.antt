use Rattle.ks_law_commit.proofs.Bounds.{fetches_go_on}
use Rattle.ks_law_commit.proofs.positions.fetches_go_on.Goals as goal

pub returns : goal.returns
returns c = fetches_go_on
