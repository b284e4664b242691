use Rattle.ks_def_lookups.proofs.KeptDecoded.{kept_is_decoded}
use Rattle.ks_def_lookups.proofs.kept_is_decoded.Goals as goal

pub returns : goal.returns
returns c = kept_is_decoded
