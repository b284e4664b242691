-- What expressions, projections and aggregates make of values that have a spelling has one too.
use Rattle.std.proofs.Common.{◌≡◌, ℕ, ℤ, pos, ◌<◌, ◌^◌, Bool, true, false, cond, List, length, [], ◌∷◌, Option, Some, None, refl, arith}
use Rattle.std.specs.Prelude.{◌%◌, ◌==◌, nat_le}
use Rattle.std.specs.List.{AllByRecursion}
use Rattle.std.specs.Int.{w64, cast_signed, int_wrapping_add, int_wrapping_sub, int_wrapping_mul}
use Rattle.std.specs.Int.RustNames.{FitsSigned}
use Rattle.std.specs.declared.cmp.Ordering.{Ordering}
use Rattle.std.specs.declared.cmp.Ordering.TheVariants.{Less, Equal, Greater}
use Rattle.std.specs.Ordering.{nat_cmp}
use Rattle.std.specs.Cmp.Lexicographic.{slice_cmp, pointwise}
use Rattle.std.proofs.lemmas.Bool.{eqb-false, leb-true}
use Rattle.std.proofs.Math.Facts.{sfits_to_z}
use Rattle.ks_record.specs.Texts.{IsKey, IsName, IsText, key_of}
use Rattle.ks_row.specs.Rows.{Member, is_row, field_of}
use Rattle.ks_row.specs.Spelling.{FitsField, FitsMember, FitsRow}
use Rattle.ks_row.specs.FieldKeys.{key_from_field, field_key}
use Rattle.ks_row.specs.declared.row.Field.{Field}
use Rattle.ks_row.specs.declared.row.Field.TheVariants.{Int, Text}
use Rattle.ks_record.proofs.Decimals.{decimal_is_key}
use Rattle.ks_wire.specs.Spelling.{FitsAgg}
use Rattle.ks_wire.specs.declared.values.Agg.{Agg}
use Rattle.ks_wire.specs.declared.values.Delta.{Delta}
use Rattle.ks_expr.specs.Terms.{Term, Set}
use Rattle.ks_expr.specs.Terms.Term.{FieldOf, LeftOf, RightOf, Number, Words, Plus, Minus, Times}
use Rattle.ks_expr.specs.Eval.{Row, side_field, of_numbers, eval, put_field, with_field, fields_onto, project, joined, asks}
use Rattle.ks_law_topology.specs.Spelled.{IfThere, FitsTerm, FitsSet}
use Rattle.ks_query.specs.Aggregates.{amount_in, plus, minus, moved, stream_add, table_apply, with_members, is_zero, or_nothing}

-- ---- numbers of 64 bits
wrapped : (n : ℕ) → FitsSigned w64 (cast_signed w64 (n % 2 ^ 64))
wrapped n = sfits_to_z (record { fits = omega arith })

add_fits : (x y : ℤ) → FitsSigned w64 (int_wrapping_add w64 x y)
add_fits x y = wrapped _

sub_fits : (x y : ℤ) → FitsSigned w64 (int_wrapping_sub w64 x y)
sub_fits x y = wrapped _

mul_fits : (x y : ℤ) → FitsSigned w64 (int_wrapping_mul w64 x y)
mul_fits x y = wrapped _

-- ---- fields
field_fits : (name : List ℕ) (ms : List Member) → AllByRecursion FitsMember ms → IfThere FitsField (field_of name ms)
field_fits name [] h = tt
field_fits name (m ∷ ms) h = by (pointwise ◌==◌ m.0 name) (field_fits name ms h.1)
  where
    by : (b : Bool) → IfThere FitsField (field_of name ms) → IfThere FitsField (cond b (Some m.1) (field_of name ms))
    by true more = h.0.field
    by false more = more

side_fits : (name : List ℕ) (row : Option Row) → IfThere FitsRow row → IfThere FitsField (side_field name row)
side_fits name None h = tt
side_fits name (Some row) h = field_fits name row h.members

numbers_fit : (f : ℤ → ℤ → ℤ) → ((x y : ℤ) → FitsSigned w64 (f x y)) → (a b : Option Field) → IfThere FitsField (of_numbers f a b)
numbers_fit f h (Some (Int x)) (Some (Int y)) = h x y
numbers_fit f h (Some (Int x)) (Some (Text y)) = tt
numbers_fit f h (Some (Int x)) None = tt
numbers_fit f h (Some (Text x)) b = tt
numbers_fit f h None b = tt

eval_fits : (e : Term) (l r : Option Row) → FitsTerm e → IfThere FitsRow l → IfThere FitsRow r → IfThere FitsField (eval e l r)
eval_fits (FieldOf name) l r h a b = side_fits name l a
eval_fits (LeftOf name) l r h a b = side_fits name l a
eval_fits (RightOf name) l r h a b = side_fits name r b
eval_fits (Number z) l r h a b = h
eval_fits (Words s) l r h a b = h
eval_fits (Plus x y) l r h a b = numbers_fit (int_wrapping_add w64) add_fits (eval x l r) (eval y l r)
eval_fits (Minus x y) l r h a b = numbers_fit (int_wrapping_sub w64) sub_fits (eval x l r) (eval y l r)
eval_fits (Times x y) l r h a b = numbers_fit (int_wrapping_mul w64) mul_fits (eval x l r) (eval y l r)

put_fits : (name : List ℕ) (f : Field) (row : Row) → IsName name → FitsField f → AllByRecursion FitsMember row → AllByRecursion FitsMember (put_field name f row)
put_fits name f [] n h row = (record { name = n; field = h }, tt)
put_fits name f (m ∷ ms) n h row = by (slice_cmp nat_cmp m.0 name) (put_fits name f ms n h row.1)
  where
    by : (o : Ordering) → AllByRecursion FitsMember (put_field name f ms) →
        AllByRecursion FitsMember (elim o as (λ _. Row) [ Less ↦ m ∷ put_field name f ms | Equal ↦ (name, f) ∷ ms | Greater ↦ (name, f) ∷ m ∷ ms ])
    by Less more = (row.0, more)
    by Equal more = (record { name = n; field = h }, row.1)
    by Greater more = (record { name = n; field = h }, row)

with_fits : (name : List ℕ) (f : Option Field) (row : Row) → IsName name → IfThere FitsField f → AllByRecursion FitsMember row → AllByRecursion FitsMember (with_field name f row)
with_fits name None row n h all = all
with_fits name (Some f) row n h all = put_fits name f row n h all

onto_fits : (found : Row) (set : Set) (l r : Option Row) → FitsSet set → IfThere FitsRow l → IfThere FitsRow r → AllByRecursion FitsMember found → AllByRecursion FitsMember (fields_onto found set l r)
onto_fits found [] l r h a b all = all
onto_fits found (m ∷ set) l r h a b all = onto_fits (with_field m.0 (eval m.1 l r) found) set l r h.1 a b (with_fits m.0 (eval m.1 l r) found h.0.0 (eval_fits m.1 l r h.0.1 a b) all)

pub project_fits : (set : Set) (l r : Option Row) → FitsSet set → IfThere FitsRow l → IfThere FitsRow r → IfThere FitsRow (project set l r)
project_fits set l r h a b = by (is_row (fields_onto [] set l r)) refl
  where
    by : (c : Bool) → is_row (fields_onto [] set l r) ≡ c → IfThere FitsRow (cond c (Some (fields_onto [] set l r)) None)
    by true e = record { row = e; members = onto_fits [] set l r h a b tt }
    by false e = tt

pub joined_fits : (kind : _) (set : Set) (l r : Option Row) → FitsSet set → IfThere FitsRow l → IfThere FitsRow r → IfThere FitsRow (joined kind set l r)
joined_fits kind set l r h a b = by (asks kind _ _) (project_fits set l r h a b)
  where
    by : (c : Bool) → IfThere FitsRow (project set l r) → IfThere FitsRow (cond c (project set l r) None)
    by true more = more
    by false more = tt

-- ---- keys of fields
key_of_text : (s : List ℕ) → IsText s → IfThere IsKey (key_of s)
key_of_text s h = by (length s == 0) (nat_le (length s) 1024) refl refl
  where
    positive : (length s ≡ 0 → ⊥) → 0 < length s
    positive ne = omega arith

    by : (a b : Bool) → (length s == 0) ≡ a → nat_le (length s) 1024 ≡ b → IfThere IsKey (cond a None (cond b (Some s) None))
    by true b e f = tt
    by false true e f = record { some = positive (eqb-false (length s) 0 e); most = leb-true (length s) 1024 f; utf8 = h.utf8 }
    by false false e f = tt

pub field_key_fits : (name : List ℕ) (row : Row) → FitsRow row → IfThere IsKey (field_key name row)
field_key_fits name row h = by (field_of name row) (field_fits name row h.members)
  where
    by : (f : Option Field) → IfThere FitsField f → IfThere IsKey (elim f as (λ _. Option (List ℕ)) [ None ↦ None | Some x ↦ key_from_field x ])
    by None h = tt
    by (Some (Int z)) h = decimal_is_key z h
    by (Some (Text s)) h = key_of_text s h

-- ---- aggregates
pub plus_fits : (a : Agg) (z : ℤ) → FitsAgg (plus a z)
plus_fits a z = record { members = add_fits a.members (pos 1); total = add_fits a.total z }

pub minus_fits : (a : Agg) (z : ℤ) → FitsAgg (minus a z)
minus_fits a z = record { members = sub_fits a.members (pos 1); total = sub_fits a.total z }

moved_fits : (a : Agg) (d : Delta) → FitsAgg (moved a d)
moved_fits a d = by d.add
  where
    by : (b : Bool) → FitsAgg (cond b (plus a d.amount) (minus a d.amount))
    by true = plus_fits a d.amount
    by false = minus_fits a d.amount

members_fit : (a : Agg) → FitsAgg a → IfThere FitsAgg (with_members a)
members_fit a h = by (is_zero a.members)
  where
    by : (b : Bool) → IfThere FitsAgg (cond b None (Some a))
    by true = tt
    by false = h

pub apply_fits : (old : Option Agg) (d : Delta) → IfThere FitsAgg (table_apply old d)
apply_fits old d = members_fit (moved (or_nothing old) d) (moved_fits (or_nothing old) d)

pub stream_fits : (field : Option (List ℕ)) (old : Option Agg) (row : Row) → FitsAgg (stream_add field old row)
stream_fits field old row = plus_fits (or_nothing old) (amount_in field row)
