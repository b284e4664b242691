use Rattle.ks_assign_group.proofs.Places.{good_places}
use Rattle.ks_assign_group.proofs.assigning.good_places.Goals as goal

pub returns : goal.returns
returns c = good_places
