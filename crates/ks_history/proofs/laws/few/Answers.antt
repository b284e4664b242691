use Rattle.ks_history.proofs.Epochs.{epoch_few, generation_few}
use Rattle.ks_history.proofs.laws.few.Goals as goal

pub returns : goal.returns
returns c = record { epochs = epoch_few; generation = generation_few }
