use Rattle.ks_law_commit.proofs.Carried.{both_advance}
use Rattle.ks_law_commit.proofs.advancing.both_advance.Goals as goal

pub returns : goal.returns
returns c = both_advance
