use Rattle.ks_law_commit.proofs.Built.{building_begins}
use Rattle.ks_law_commit.proofs.building.building_begins.Goals as goal

pub returns : goal.returns
returns c = building_begins
