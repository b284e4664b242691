use Rattle.ks_law_restore.proofs.Replicas.{rested_follows}
use Rattle.ks_law_restore.proofs.laws.rested_follows.Goals as goal

pub returns : goal.returns
returns c = rested_follows
