-- The members of a plain row, each put at its place.
use Rattle.std.specs.Prelude.{◌≡◌, ℕ, ◌+◌, List, [], ◌∷◌, ◌++◌, Option, Some, None, true}
use Rattle.std.specs.Ordering.{nat_cmp, match_ordering}
use Rattle.std.specs.Cmp.Lexicographic.{slice_cmp}
use Rattle.std.specs.List.{AllByRecursion}
use Rattle.ks_row.specs.Rows.{Member}
use Rattle.ks_record.specs.Texts.{name_of, text_of}
use Rattle.ks_row.specs.declared.row.Field.{Field}
use Rattle.ks_row.specs.declared.row.Field.TheVariants.{Int, Text}
use Rattle.ks_job_record.specs.Plain.{members_text, member_text, is_plain, IsPlainField}

-- a text that isn't too long
abbrev pub IsFitField : Field → Type 0
IsFitField (Int z) = Unit {0}
IsFitField (Text s) = text_of s ≡ Some s

pub record IsMadeField (field made : Field) : Type 0 where
  pub same : made ≡ field
  pub fit : IsFitField field

-- from this place on: before the first greater name, and none where the name stands there
abbrev pub place_among : ℕ → List ℕ → List Member → Option ℕ
place_among i name [] = Some i
place_among i name (m ∷ ms) = match_ordering (slice_cmp nat_cmp name m.0) (Some i) None (place_among (i + 1) name ms)

-- the members, with one more in order of names
abbrev pub with_field : Member → List Member → List Member
with_field m [] = m ∷ []
with_field m (n ∷ ns) = match_ordering (slice_cmp nat_cmp m.0 n.0) (m ∷ n ∷ ns) ((n.0, m.1) ∷ ns) (n ∷ with_field m ns)

abbrev pub with_fields : List Member → List Member → List Member
with_fields found [] = found
with_fields found (m ∷ ms) = with_fields (with_field m found) ms

pub record IsFit (m : Member) : Type 0 where
  pub name : name_of m.0 ≡ Some m.0
  pub field : IsFitField m.1

pub record IsPut (m : Member) (old new : List Member) : Type 0 where
  pub fit : IsFit m
  pub put : new ≡ with_field m old

-- a member that is spelled in place and fits
pub record IsWhole (m : Member) : Type 0 where
  pub fit : IsFit m
  pub name : is_plain m.0 ≡ true
  pub field : IsPlainField m.1

pub record TakesMember (old : List Member) (bytes : List ℕ) (new : List Member) (rest : List ℕ) : Type 0 where
  pub one : Member
  pub text : bytes ≡ member_text one ++ rest
  pub whole : IsWhole one
  pub put : new ≡ with_field one old

pub record TakesMembers (old : List Member) (bytes : List ℕ) (new : List Member) (rest : List ℕ) : Type 0 where
  pub ones : List Member
  pub text : bytes ≡ members_text ones ++ rest
  pub whole : AllByRecursion IsWhole ones
  pub put : new ≡ with_fields old ones

-- the last member has the closing brace behind it
pub record ClosesRow (old : List Member) (bytes : List ℕ) (new : List Member) (rest : List ℕ) : Type 0 where
  pub ones : List Member
  pub last : Member
  pub text : bytes ≡ members_text ones ++ (member_text last ++ 125 ∷ rest)
  pub whole : AllByRecursion IsWhole ones
  pub whole_last : IsWhole last
  pub put : new ≡ with_field last (with_fields old ones)
