-- What stays: a row has one spelling, so that bytes tell whether a row is another.
use Rattle.std.proofs.Common.{◌≡◌, ℕ, true, List, Option, Some, None, refl, sym, ap, ◌∙◌}
use Rattle.std.specs.Prelude.{is_some}
use Rattle.ks_record.specs.Bytes.{IsBytes}
use Rattle.ks_row.specs.Spelling.{FitsRow, spelling}
use Rattle.ks_row.specs.Reading.{row_from}
use Rattle.ks_row.proofs.Spelled.{row_codec}
use Rattle.ks_expr.specs.Eval.{Row}
use Rattle.ks_row.specs.Judged.{members_of, row_in}

-- the row that bytes spell, where they spell one
row_is : (bytes : List ℕ) → is_some (row_from bytes) ≡ true → Some (row_in bytes) ≡ row_from bytes
row_is bytes = by (row_from bytes)
  where
    by : (o : Option Row) → is_some o ≡ true → Some (members_of o) ≡ o
    by (Some ms) e = refl
    by None e = cc

-- such bytes are that row's spelling
pub row_spelled : (bytes : List ℕ) → IsBytes bytes → is_some (row_from bytes) ≡ true → FitsRow (row_in bytes) × (bytes ≡ spelling (row_in bytes))
row_spelled bytes are e = row_codec.back bytes (row_in bytes) are (sym (row_is bytes e))

-- the bytes that spell a row are read as it
pub read_again : (bytes : List ℕ) (row : Row) → bytes ≡ spelling row → FitsRow row → row_from bytes ≡ Some row
read_again bytes row is fits = ap row_from is ∙ row_codec.again row fits

pub row_seen : (bytes : List ℕ) (row : Row) → bytes ≡ spelling row → FitsRow row → row_in bytes ≡ row
row_seen bytes row is fits = ap members_of (read_again bytes row is fits)
