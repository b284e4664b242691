use Rattle.ks_def_lookups.proofs.WindowsDecoded.{counts_agree}
use Rattle.ks_def_lookups.proofs.windows_are_decoded.Goals as goal

pub returns : goal.returns
returns c = counts_agree
