use Rattle.ks_law_restore.proofs.Freezing.{frozen_is_work}
use Rattle.ks_law_restore.proofs.laws.frozen_is_work.Goals as goal

pub returns : goal.returns
returns c = frozen_is_work
