use Rattle.ks_law_sharing.proofs.Assigned.{fetching_stays_active}
use Rattle.ks_law_sharing.proofs.tasks.fetching_stays_active.Goals as goal

pub returns : goal.returns
returns c = fetching_stays_active
