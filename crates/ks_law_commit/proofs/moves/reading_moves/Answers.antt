use Rattle.ks_law_commit.proofs.Moving.{reading_moves}
use Rattle.ks_law_commit.proofs.moves.reading_moves.Goals as goal

pub returns : goal.returns
returns c = reading_moves
