use Rattle.ks_law_commit.proofs.Carried.{request_advances}
use Rattle.ks_law_commit.proofs.advancing.request_advances.Goals as goal

pub returns : goal.returns
returns c = request_advances
