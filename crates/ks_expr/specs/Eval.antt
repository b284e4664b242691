-- The values of expressions, predicates and projections over rows.
use Rattle.std.specs.Prelude.{ℕ, ℤ, List, [], ◌∷◌, Option, Some, None, Bool, false, not, ◌&&◌, ◌||◌, is_some, if◌then◌else◌}
use Rattle.std.specs.declared.cmp.Ordering.TheVariants.{Less, Equal, Greater}
use Rattle.std.specs.Int.{w64, int_wrapping_add, int_wrapping_sub, int_wrapping_mul}
use Rattle.std.specs.Ordering.{nat_cmp, int_cmp, eq_by_cmp, is_lt}
use Rattle.std.specs.Cmp.Lexicographic.{slice_cmp}
use Rattle.ks_row.specs.Rows.{Member, field_of, row_of}
use Rattle.ks_row.specs.declared.row.Field.{Field}
use Rattle.ks_row.specs.declared.row.Field.TheVariants.{Int, Text}
use Rattle.ks_expr.specs.declared.terms.JoinKind.{JoinKind}
use Rattle.ks_expr.specs.declared.terms.JoinKind.TheVariants.{Inner, Left as LeftJoin, Outer}
use Rattle.ks_expr.specs.Terms.{Term, Test, Set}
use Rattle.ks_expr.specs.Terms.Term.{FieldOf, LeftOf, RightOf, Number, Words, Plus, Minus, Times}
use Rattle.ks_expr.specs.Terms.Test.{IsThere, Equals, IsLess, Fails, Both, Either}

abbrev pub Row : Type 0
Row = List Member

abbrev pub same_bytes : List ℕ → List ℕ → Bool
same_bytes a b = eq_by_cmp (slice_cmp nat_cmp) a b

-- ---- expressions
-- a side's field; absent where the side or the field is
abbrev pub side_field : List ℕ → Option Row → Option Field
side_field name None = None
side_field name (Some row) = field_of name row

-- absent unless both are numbers
abbrev pub of_numbers : (ℤ → ℤ → ℤ) → Option Field → Option Field → Option Field
of_numbers f (Some (Int a)) (Some (Int b)) = Some (Int (f a b))
of_numbers f _ _ = None

-- a field without a side is one of the left row
abbrev pub eval : Term → Option Row → Option Row → Option Field
eval (FieldOf name) l r = side_field name l
eval (LeftOf name) l r = side_field name l
eval (RightOf name) l r = side_field name r
eval (Number z) l r = Some (Int z)
eval (Words s) l r = Some (Text s)
eval (Plus a b) l r = of_numbers (int_wrapping_add w64) (eval a l r) (eval b l r)
eval (Minus a b) l r = of_numbers (int_wrapping_sub w64) (eval a l r) (eval b l r)
eval (Times a b) l r = of_numbers (int_wrapping_mul w64) (eval a l r) (eval b l r)

-- ---- predicates
-- of one kind and equal
abbrev pub same_field : Field → Field → Bool
same_field (Int a) (Int b) = eq_by_cmp int_cmp a b
same_field (Text s) (Text t) = same_bytes s t
same_field (Int a) (Text t) = false
same_field (Text s) (Int b) = false

-- of one kind and less; texts by their bytes
abbrev pub field_below : Field → Field → Bool
field_below (Int a) (Int b) = is_lt (int_cmp a b)
field_below (Text s) (Text t) = is_lt (slice_cmp nat_cmp s t)
field_below (Int a) (Text t) = false
field_below (Text s) (Int b) = false

abbrev pub both_there : (Field → Field → Bool) → Option Field → Option Field → Bool
both_there f (Some a) (Some b) = f a b
both_there f _ _ = false

abbrev pub holds : Test → Row → Bool
holds (IsThere e) v = is_some (eval e (Some v) None)
holds (Equals a b) v = both_there same_field (eval a (Some v) None) (eval b (Some v) None)
holds (IsLess a b) v = both_there field_below (eval a (Some v) None) (eval b (Some v) None)
holds (Fails p) v = not (holds p v)
holds (Both p q) v = holds p v && holds q v
holds (Either p q) v = holds p v || holds q v

-- ---- projections
-- a row with one more field, in its place by the bytes of names; in the place of a field of that name
abbrev pub put_field : List ℕ → Field → Row → Row
put_field name f [] = (name, f) ∷ []
put_field name f (m ∷ ms) = elim (slice_cmp nat_cmp m.0 name) [
  | Less ↦ m ∷ put_field name f ms
  | Equal ↦ (name, f) ∷ ms
  | Greater ↦ (name, f) ∷ m ∷ ms
]

abbrev pub with_field : List ℕ → Option Field → Row → Row
with_field name None row = row
with_field name (Some f) row = put_field name f row

-- the fields whose expression is not absent, onto what was found before
abbrev pub fields_onto : Row → Set → Option Row → Option Row → Row
fields_onto found [] l r = found
fields_onto found (m ∷ set) l r = fields_onto (with_field m.0 (eval m.1 l r) found) set l r

-- the row of these fields; none where there is no field, or more than 64
abbrev pub project : Set → Option Row → Option Row → Option Row
project set l r = row_of (fields_onto [] set l r)

-- ---- joins
-- whether a join has a row, by which of its sides are there
abbrev pub asks : JoinKind → Bool → Bool → Bool
asks Inner l r = l && r
asks LeftJoin l r = l
asks Outer l r = l || r

abbrev pub joined : JoinKind → Set → Option Row → Option Row → Option Row
joined kind set l r = if asks kind (is_some l) (is_some r) then project set l r else None
