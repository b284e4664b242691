use Rattle.ks_law_inputs.proofs.Readings.{read_fits}
use Rattle.ks_law_inputs.proofs.values_fit.Goals as goal

pub returns : goal.returns
returns c = read_fits
