use Rattle.ks_law_sharing.proofs.Touching.{seen_stays}
use Rattle.ks_law_sharing.proofs.tasks.seen_stays.Goals as goal

pub returns : goal.returns
returns c = seen_stays
