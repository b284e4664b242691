use Rattle.ks_task.proofs.Alone.{everything_is_good}
use Rattle.ks_task.proofs.work.everything_is_good.Goals as goal

pub returns : goal.returns
returns c = everything_is_good
