use Rattle.ks_law_commit.proofs.Moving.{feeding_moves}
use Rattle.ks_law_commit.proofs.moves.feeding_moves.Goals as goal

pub returns : goal.returns
returns c = feeding_moves
