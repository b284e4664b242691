use Rattle.ks_law_sharing.proofs.Assigned.{assigned_stays}
use Rattle.ks_law_sharing.proofs.tasks.assigned_stays.Goals as goal

pub returns : goal.returns
returns c = assigned_stays
