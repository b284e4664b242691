-- Reading a list of bytes from its front: a value and the bytes after it, or none where no value of the kind stands there.
use Rattle.std.specs.Prelude.{ℕ, ℤ, zero, suc, List, [], ◌∷◌, length, take, drop, Option, Some, None, ◌==◌, nat_lt, if◌then◌else◌}
use Rattle.std.specs.Int.{Width, w32, w64, byte_len, from_be_bytes, cast_signed}
use Rattle.ks_record.specs.Texts.{name_from, text_from}
use Rattle.ks_row.specs.Rows.{Member, row_of}
use Rattle.ks_row.specs.declared.row.Field.{Field}
use Rattle.ks_row.specs.declared.row.Field.TheVariants.{Int, Text}

-- where a step gives nothing, all gives nothing
infixl 10 ◌>>=◌
abbrev pub ◌>>=◌ : {A B : Type 0} → Option A → (A → Option B) → Option B
None >>= f = None
(Some x) >>= f = f x

-- so many bytes
abbrev pub bytes_at : ℕ → List ℕ → Option (List ℕ × List ℕ)
bytes_at n bytes = if nat_lt (length bytes) n then None else Some (take n bytes, drop n bytes)

-- an unsigned number, its highest byte first
abbrev pub number_at : Width → List ℕ → Option (ℕ × List ℕ)
number_at w bytes = if nat_lt (length bytes) (byte_len w) then None else Some (from_be_bytes w (take (byte_len w) bytes), drop (byte_len w) bytes)

-- a signed number of eight bytes
abbrev pub int_at : List ℕ → Option (ℤ × List ℕ)
int_at bytes = if nat_lt (length bytes) 8 then None else Some (cast_signed w64 (from_be_bytes w64 (take 8 bytes)), drop 8 bytes)

-- a name behind its length
unfoldable pub name_at : List ℕ → Option (List ℕ × List ℕ)
name_at [] = None
name_at (n ∷ rest) = do
  front ← bytes_at n rest
  name ← name_from front.0
  Some (name, front.1)

-- a field: 0 and a number, or 1, a length and a text
unfoldable pub field_at : List ℕ → Option (Field × List ℕ)
field_at [] = None
field_at (zero ∷ rest) = do
  n ← int_at rest
  Some (Int n.0, n.1)
field_at (suc zero ∷ rest) = do
  n ← number_at w32 rest
  front ← bytes_at n.0 n.1
  text ← text_from front.0
  Some (Text text, front.1)
field_at (suc (suc b) ∷ rest) = None

unfoldable pub member_at : List ℕ → Option (Member × List ℕ)
member_at bytes = do
  name ← name_at bytes
  field ← field_at name.1
  Some ((name.0, field.0), field.1)

unfoldable pub members_at : ℕ → List ℕ → Option (List Member × List ℕ)
members_at zero bytes = Some ([], bytes)
members_at (suc n) bytes = do
  first ← member_at bytes
  others ← members_at n first.1
  Some (first.0 ∷ others.0, others.1)

-- the row that the bytes spell, all of them
unfoldable pub row_from : List ℕ → Option (List Member)
row_from [] = None
row_from (n ∷ bytes) = do
  ms ← members_at n bytes
  if length ms.1 == 0 then row_of ms.0 else None

-- the members that the bytes spell one after the other, all of them, whatever names they have
unfoldable pub members_from : List ℕ → Option (List Member)
members_from [] = None
members_from (n ∷ bytes) = do
  ms ← members_at n bytes
  if length ms.1 == 0 then Some ms.0 else None
