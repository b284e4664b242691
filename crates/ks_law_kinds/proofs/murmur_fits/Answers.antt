use Rattle.ks_law_kinds.proofs.Hashes as hashes
use Rattle.ks_law_kinds.proofs.murmur_fits.Goals as goal

pub returns : goal.returns
returns c = hashes.murmur_fits
