use Rattle.ks_law_commit.proofs.Bounds.{stable_rises}
use Rattle.ks_law_commit.proofs.positions.stable_rises.Goals as goal

pub returns : goal.returns
returns c = stable_rises
