use Rattle.ks_law_sharing.proofs.Assigned.{active_stays}
use Rattle.ks_law_sharing.proofs.tasks.active_stays.Goals as goal

pub returns : goal.returns
returns c = active_stays
