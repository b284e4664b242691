use Rattle.ks_law_sharing.proofs.Pending.{one_pending}
use Rattle.ks_law_sharing.proofs.others.one_pending.Goals as goal

pub returns : goal.returns
returns c = one_pending
