-- A field is put where its name's place is.
use Rattle.std.proofs.Common.{◌≡◌, ℕ, suc, ◌≤◌, Bool, true, false, List, [], ◌∷◌, length, slice_get, slice_set, refl, ap, arith, if◌then◌else◌}
use Rattle.std.specs.List.{insert}
use Rattle.std.specs.declared.cmp.Ordering.{Ordering}
use Rattle.std.specs.declared.cmp.Ordering.TheVariants.{Less, Equal, Greater}
use Rattle.std.specs.Ordering.{nat_cmp, is_eq, is_lt}
use Rattle.std.specs.Cmp.Lexicographic.{slice_cmp, texts_ties}
use Rattle.ks_row.specs.declared.row.Field.{Field}
use Rattle.ks_expr.specs.Eval.{Row, put_field}
use Rattle.ks_expr.specs.Values.{place_for, is_named}

pub place_within : (name : List ℕ) (ms : Row) → place_for name ms ≤ length ms
place_within name [] = omega arith
place_within name (m ∷ ms) = by (is_lt (slice_cmp nat_cmp m.0 name)) (place_within name ms)
  where
    by : (b : Bool) → place_for name ms ≤ length ms → (if b then suc (place_for name ms) else 0) ≤ suc (length ms)
    by true h = omega (arith, h)
    by false h = omega arith

pub put_set : (name : List ℕ) (f : Field) (ms : Row) → is_named name (slice_get ms (place_for name ms)) ≡ true → slice_set ms (place_for name ms) (name, f) ≡ put_field name f ms
put_set name f [] e = cc
put_set name f (m ∷ ms) e = by (slice_cmp nat_cmp m.0 name) refl (put_set name f ms) e
  where
    by : (o : Ordering) → slice_cmp nat_cmp m.0 name ≡ o → (is_named name (slice_get ms (place_for name ms)) ≡ true → slice_set ms (place_for name ms) (name, f) ≡ put_field name f ms)
        → is_named name (slice_get (m ∷ ms) (if is_lt o then suc (place_for name ms) else 0)) ≡ true
        → slice_set (m ∷ ms) (if is_lt o then suc (place_for name ms) else 0) (name, f) ≡ elim o [ Less ↦ m ∷ put_field name f ms | Equal ↦ (name, f) ∷ ms | Greater ↦ (name, f) ∷ m ∷ ms ]
    by Less o more e = ap (λ l. m ∷ l) (more e)
    by Equal o more e = refl
    by Greater o more e = let t = texts_ties m.0 name in let g = ap is_eq o in absurd (cc)

pub put_insert : (name : List ℕ) (f : Field) (ms : Row) → is_named name (slice_get ms (place_for name ms)) ≡ false → insert ms (place_for name ms) (name, f) ≡ put_field name f ms
put_insert name f [] e = refl
put_insert name f (m ∷ ms) e = by (slice_cmp nat_cmp m.0 name) refl (put_insert name f ms) e
  where
    by : (o : Ordering) → slice_cmp nat_cmp m.0 name ≡ o → (is_named name (slice_get ms (place_for name ms)) ≡ false → insert ms (place_for name ms) (name, f) ≡ put_field name f ms)
        → is_named name (slice_get (m ∷ ms) (if is_lt o then suc (place_for name ms) else 0)) ≡ false
        → insert (m ∷ ms) (if is_lt o then suc (place_for name ms) else 0) (name, f) ≡ elim o [ Less ↦ m ∷ put_field name f ms | Equal ↦ (name, f) ∷ ms | Greater ↦ (name, f) ∷ m ∷ ms ]
    by Less o more e = ap (λ l. m ∷ l) (more e)
    by Equal o more e = let t = texts_ties m.0 name in let g = ap is_eq o in absurd (cc)
    by Greater o more e = refl
