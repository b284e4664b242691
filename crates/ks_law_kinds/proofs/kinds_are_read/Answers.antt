use Rattle.ks_law_kinds.proofs.Arriving as arriving
use Rattle.ks_law_kinds.proofs.kinds_are_read.Goals as goal

pub returns : goal.returns
returns c = arriving.kinds_are_read
