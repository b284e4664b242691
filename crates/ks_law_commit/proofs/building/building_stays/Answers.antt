use Rattle.ks_law_commit.proofs.Built.{building_stays}
use Rattle.ks_law_commit.proofs.building.building_stays.Goals as goal

pub returns : goal.returns
returns c = building_stays
