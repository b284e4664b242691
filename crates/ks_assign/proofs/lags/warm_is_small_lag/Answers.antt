use Rattle.ks_assign.proofs.Warmth.{warm_is}
use Rattle.ks_assign.proofs.lags.warm_is_small_lag.Goals as goal

pub returns : goal.returns
returns c = warm_is
