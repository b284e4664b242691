use Rattle.ks_worker_acts.proofs.Leavers.{same_clean}
use Rattle.ks_worker_acts.proofs.dropping.is_clean.Goals as goal

pub returns : goal.returns
returns c = same_clean c.args.task.now c.is_clean.result c.is_clean.ensures.yes c.is_clean.ensures.no
