use Rattle.ks_law_kinds.proofs.Kept as kept
use Rattle.ks_law_kinds.proofs.decided_are_of_kind.Goals as goal

pub returns : goal.returns
returns c = kept.decided_are_of_kind
