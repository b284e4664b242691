use Rattle.ks_law_commit.proofs.Moving.{fed_twice}
use Rattle.ks_law_commit.proofs.moves.fed_twice.Goals as goal

pub returns : goal.returns
returns c = fed_twice
