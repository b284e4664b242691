use Rattle.ks_task.proofs.Restoring.{made_is_restored}
use Rattle.ks_task.proofs.laws.made_is_restored.Goals as goal

pub returns : goal.returns
returns c = made_is_restored
