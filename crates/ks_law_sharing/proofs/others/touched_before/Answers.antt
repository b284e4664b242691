use Rattle.ks_law_sharing.proofs.Touching.{touched_before}
use Rattle.ks_law_sharing.proofs.others.touched_before.Goals as goal

pub returns : goal.returns
returns c = touched_before
