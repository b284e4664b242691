use Rattle.ks_assign_group.proofs.Alone.{alone_is_good}
use Rattle.ks_assign_group.proofs.assigning.alone_is_good.Goals as goal

pub returns : goal.returns
returns c = alone_is_good
