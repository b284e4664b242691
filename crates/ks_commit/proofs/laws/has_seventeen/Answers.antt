use Rattle.ks_commit.proofs.Epochs.{has_seventeen as seventeen}
use Rattle.ks_commit.proofs.laws.has_seventeen.Goals as goal

pub returns : goal.returns
returns c = seventeen
