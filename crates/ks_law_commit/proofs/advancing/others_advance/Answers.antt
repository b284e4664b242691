use Rattle.ks_law_commit.proofs.Carried.{others_advance}
use Rattle.ks_law_commit.proofs.advancing.others_advance.Goals as goal

pub returns : goal.returns
returns c = others_advance
