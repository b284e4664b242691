use Rattle.ks_law_restore.proofs.Replicas.{feeding_follows}
use Rattle.ks_law_restore.proofs.laws.feeding_follows.Goals as goal

pub returns : goal.returns
returns c = feeding_follows
