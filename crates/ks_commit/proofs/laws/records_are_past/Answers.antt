use Rattle.ks_commit.proofs.Epochs.{of_past}
use Rattle.ks_commit.proofs.laws.records_are_past.Goals as goal

pub returns : goal.returns
returns c = of_past
