use Rattle.ks_law_restore.proofs.Inside.{frozen_is_inside}
use Rattle.ks_law_restore.proofs.laws.frozen_is_inside.Goals as goal

pub returns : goal.returns
returns c = frozen_is_inside
