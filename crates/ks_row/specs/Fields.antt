-- A field where its bytes stand, and where a row's bytes have it.
use Rattle.std.specs.Prelude.{ℕ, ℤ, zero, suc, List, [], ◌∷◌, Option, Some, None, ◌==◌, if◌then◌else◌}
use Rattle.std.specs.Borrow.{Bor}
use Rattle.std.specs.Int.{w32}
use Rattle.std.specs.Cmp.Lexicographic.{pointwise}
use Rattle.ks_row.specs.Rows.{Member}
use Rattle.ks_row.specs.Reading.{◌>>=◌, bytes_at, number_at, int_at}
use Rattle.ks_row.specs.declared.row.Field.{Field}
use Rattle.ks_row.specs.declared.row.Field.TheVariants.{Int, Text}
use Rattle.ks_row.specs.declared.field_ref.FieldRef.{FieldRef}
use Rattle.ks_row.specs.declared.field_ref.FieldRef.TheVariants.{Int as Number, Text as Letters}

abbrev pub field_seen : FieldRef → Field
field_seen (Number z) = Int z
field_seen (Letters s) = Text s.now

-- a member by the bytes of its name and its field
abbrev pub member_seen : Bor (List ℕ) × FieldRef → Member
member_seen m = (m.0.now, field_seen m.1)

-- the row of one number
abbrev pub number_row : ℤ → List ℕ → List Member
number_row z name = (name, Int z) ∷ []

-- ---- fields of a row's own spelling, whose letters aren't looked at
unfoldable pub field_there : List ℕ → Option (Field × List ℕ)
field_there [] = None
field_there (zero ∷ rest) = do
  n ← int_at rest
  Some (Int n.0, n.1)
field_there (suc zero ∷ rest) = do
  n ← number_at w32 rest
  front ← bytes_at n.0 n.1
  Some (Text front.0, front.1)
field_there (suc (suc b) ∷ rest) = None

unfoldable pub member_there : List ℕ → Option (Member × List ℕ)
member_there [] = None
member_there (n ∷ rest) = do
  name ← bytes_at n rest
  field ← field_there name.1
  Some ((name.0, field.0), field.1)

-- the first field of that name among so many members
abbrev pub field_among : List ℕ → ℕ → List ℕ → Option Field
field_among name zero bytes = None
field_among name (suc n) bytes = do
  m ← member_there bytes
  if pointwise ◌==◌ m.0.0 name then Some m.0.1 else field_among name n m.1

-- the field of that name in the row that the bytes spell
abbrev pub field_within : List ℕ → List ℕ → Option Field
field_within name [] = None
field_within name (n ∷ rest) = field_among name n rest
