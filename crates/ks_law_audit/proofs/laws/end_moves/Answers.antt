use Rattle.ks_law_audit.proofs.Ending.{end_moves}
use Rattle.ks_law_audit.proofs.laws.end_moves.Goals as goal

pub returns : goal.returns
returns c = end_moves
