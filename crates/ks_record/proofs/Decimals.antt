-- The decimal text of a number is a key.
use Rattle.std.proofs.Common.{ℤ, pos, negsuc, ◌<◌, length, arith}
use Rattle.std.specs.Int.{w64}
use Rattle.std.specs.Int.RustNames.{FitsSigned}
use Rattle.std.specs.Fmt.{signed_decimal}
use Rattle.std.proofs.lemmas.Fmt.{decimal_nonempty, length_signed_le, IsAscii-signed}
use Rattle.std.proofs.lemmas.Str.{IsUtf8-from_ascii}
use Rattle.ks_record.specs.Texts.{IsKey}

not_empty : (z : ℤ) → FitsSigned w64 z → 0 < length (signed_decimal z)
not_empty (pos n) fits = decimal_nonempty n (omega (arith, fits.sfits))
not_empty (negsuc n) fits = omega arith

pub decimal_is_key : (z : ℤ) → FitsSigned w64 z → IsKey (signed_decimal z)
decimal_is_key z fits = record {
  some = not_empty z fits;
  most = omega (arith, length_signed_le 20 z (omega (arith, fits.sfits)) fits.sfits);
  utf8 = IsUtf8-from_ascii (signed_decimal z) (IsAscii-signed z fits.sfits);
}
