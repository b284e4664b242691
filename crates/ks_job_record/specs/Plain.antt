-- A record line in its plainest spelling, piece by piece.
use Rattle.std.specs.Prelude.{◌≡◌, ℕ, ◌+◌, ◌<◌, ◌==◌, ◌&&◌, ℤ, pos, negsuc, List, [], ◌∷◌, ◌++◌, Bool, true, not, nat_lt, nat_le, Option, Some, None, codes, flat_map}
use Rattle.std.specs.Fmt.{decimal, signed_decimal}
use Rattle.std.specs.List.{list_all}
use Rattle.ks_row.specs.Rows.{Member}
use Rattle.ks_row.specs.declared.row.Field.{Field}
use Rattle.ks_row.specs.declared.row.Field.TheVariants.{Int, Text}
use Rattle.ks_job_record.specs.declared.pieces.Plain.{Plain}
use Rattle.ks_job_record.specs.declared.pieces.Plain.TheVariants as plain

-- printable ASCII that stands in a JSON text as it is
unfoldable pub is_plain_byte : ℕ → Bool
is_plain_byte c = nat_le 32 c && nat_lt c 127 && not (c == 34) && not (c == 92)

abbrev pub is_plain : List ℕ → Bool
is_plain text = list_all is_plain_byte text

abbrev pub field_of : Plain → Field
field_of (plain.Number z) = Int z
field_of (plain.Text s) = Text s.now

-- ---- how it is spelled
abbrev pub field_text : Field → List ℕ
field_text (Int z) = signed_decimal z
field_text (Text s) = 34 ∷ (s ++ 34 ∷ [])

abbrev pub member_text : Member → List ℕ
member_text m = 34 ∷ (m.0 ++ 34 ∷ 58 ∷ field_text m.1)

-- each member with a comma behind it
abbrev pub members_text : List Member → List ℕ
members_text ms = flat_map (λ m. member_text m ++ 44 ∷ []) ms

-- the end of a line, with the time where it is given
abbrev pub end_text : Option ℕ → List ℕ
end_text None = codes "}"
end_text (Some n) = codes ",\"ts\":" ++ decimal n ++ codes "}"

-- ---- what a piece is read as, and the bytes behind it
-- a text up to its quotation mark
pub record IsQuoted (bytes text rest : List ℕ) : Type 0 where
  pub spelled : bytes ≡ text ++ 34 ∷ rest
  pub plain : is_plain text ≡ true

pub record IsDigit (bytes : List ℕ) (n : ℕ) (rest : List ℕ) : Type 0 where
  pub spelled : bytes ≡ (48 + n) ∷ rest
  pub small : n < 10

pub record IsDigits (bytes : List ℕ) (n : ℕ) (rest : List ℕ) : Type 0 where
  pub spelled : bytes ≡ decimal n ++ rest
  pub small : n < 1000000000000000000

abbrev pub IsSmall : ℤ → Type 0
IsSmall (pos n) = n < 1000000000000000000
IsSmall (negsuc n) = n < 1000000000000000000

pub record IsNumber (bytes : List ℕ) (z : ℤ) (rest : List ℕ) : Type 0 where
  pub spelled : bytes ≡ signed_decimal z ++ rest
  pub small : IsSmall z

abbrev pub IsPlainField : Field → Type 0
IsPlainField (Int z) = IsSmall z
IsPlainField (Text s) = is_plain s ≡ true

pub record IsField (bytes : List ℕ) (field : Field) (rest : List ℕ) : Type 0 where
  pub spelled : bytes ≡ field_text field ++ rest
  pub plain : IsPlainField field

pub record IsMember (bytes : List ℕ) (m : Member) (rest : List ℕ) : Type 0 where
  pub spelled : bytes ≡ member_text m ++ rest
  pub name : is_plain m.0 ≡ true
  pub field : IsPlainField m.1
