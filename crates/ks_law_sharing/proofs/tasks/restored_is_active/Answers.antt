use Rattle.ks_law_sharing.proofs.Restoring.{restored_is_active}
use Rattle.ks_law_sharing.proofs.tasks.restored_is_active.Goals as goal

pub returns : goal.returns
returns c = restored_is_active
