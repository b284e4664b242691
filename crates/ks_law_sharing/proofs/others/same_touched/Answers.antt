use Rattle.ks_law_sharing.proofs.Touching.{same_touched}
use Rattle.ks_law_sharing.proofs.others.same_touched.Goals as goal

pub returns : goal.returns
returns c = same_touched
