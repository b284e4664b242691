use Rattle.ks_law_commit.proofs.Faith.{building_faithful}
use Rattle.ks_law_commit.proofs.committing.building_faithful.Goals as goal

pub returns : goal.returns
returns c = building_faithful
