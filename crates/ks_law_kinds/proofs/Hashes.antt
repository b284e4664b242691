-- Rules whose hashes have 128 bits.
use Rattle.std.proofs.Common.{◌^◌, ◌<◌, sym, subst}
use Rattle.ks_row.specs.Spelling.{spelling}
use Rattle.ks_hash.specs.Bounded.{murmur3_below}
use Rattle.ks_law_kinds.specs.Hashes.{MurmurFits, HashesFit}

pub hashes_fit : HashesFit
hashes_fit hash below rules is row = subst (λ h. h < 2 ^ 128) (sym (is row)) (below (spelling row))

pub murmur_fits : MurmurFits
murmur_fits rules is = hashes_fit _ murmur3_below rules is
