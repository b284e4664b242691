use Rattle.ks_law_sharing.proofs.Refusing.{markers_waited_before}
use Rattle.ks_law_sharing.proofs.refusals.markers_waited_before.Goals as goal

pub returns : goal.returns
returns c = markers_waited_before
