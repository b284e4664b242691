-- When a projection gives a row.
use Rattle.std.proofs.Common.{◌≡◌, ℕ, suc, ◌+◌, ◌≤◌, Bool, true, false, cond, ◌==◌, ◌&&◌, List, [], ◌∷◌, length, Option, Some, None, ne_eqb, refl, ap, subst, ◌∙◌, arith}
use Rattle.std.specs.Prelude.{is_none, nat_le}
use Rattle.std.specs.declared.cmp.Ordering.{Ordering}
use Rattle.std.specs.declared.cmp.Ordering.TheVariants.{Less, Equal, Greater}
use Rattle.std.specs.Ordering.{nat_cmp, is_lt, ordering_reverse}
use Rattle.std.specs.Cmp.Lexicographic.{slice_cmp, nat_list_cmp_total}
use Rattle.std.specs.FinMap.{slice_cmp-IsAntisymmetric, nat_cmp-IsAntisymmetric}
use Rattle.std.proofs.lemmas.Bool.{and_parts, and_from, le-leb}
use Rattle.ks_row.specs.declared.row.Field.{Field}
use Rattle.ks_row.specs.Rows.{Member, names_of, rises, row_of}
use Rattle.ks_expr.specs.Terms.{Set}
use Rattle.ks_expr.specs.Eval.{Row, eval, put_field, with_field, fields_onto}
use Rattle.ks_law_topology.specs.Projections.{are_absent, ProjectionsAreRows}

-- ---- fields
put_some : (name : List ℕ) (f : Field) (ms : Row) → 1 ≤ length (put_field name f ms)
put_some name f [] = omega arith
put_some name f (m ∷ ms) = by (slice_cmp nat_cmp m.0 name)
  where
    by : (o : Ordering) → 1 ≤ length {A = Member} (elim o [ Less ↦ m ∷ put_field name f ms | Equal ↦ (name, f) ∷ ms | Greater ↦ (name, f) ∷ m ∷ ms ])
    by Less = omega arith
    by Equal = omega arith
    by Greater = omega arith

put_most : (name : List ℕ) (f : Field) (ms : Row) → length (put_field name f ms) ≤ suc (length ms)
put_most name f [] = omega arith
put_most name f (m ∷ ms) = by (slice_cmp nat_cmp m.0 name) (put_most name f ms)
  where
    by : (o : Ordering) → length (put_field name f ms) ≤ suc (length ms) → length {A = Member} (elim o [ Less ↦ m ∷ put_field name f ms | Equal ↦ (name, f) ∷ ms | Greater ↦ (name, f) ∷ m ∷ ms ]) ≤ suc (suc (length ms))
    by Less h = omega (arith, h)
    by Equal h = omega arith
    by Greater h = omega arith

with_most : (name : List ℕ) (f : Option Field) (ms : Row) → length (with_field name f ms) ≤ suc (length ms)
with_most name None ms = omega arith
with_most name (Some f) ms = put_most name f ms

with_some : (name : List ℕ) (f : Option Field) (ms : Row) → 1 ≤ length ms → 1 ≤ length (with_field name f ms)
with_some name None ms h = h
with_some name (Some f) ms h = put_some name f ms

abbrev NoneOrSome : Bool → Row → Type 0
NoneOrSome true ms = ms ≡ []
NoneOrSome false ms = 1 ≤ length ms

-- ---- names rise
below_turned : (x y : List ℕ) → slice_cmp nat_cmp x y ≡ Greater → is_lt (slice_cmp nat_cmp y x) ≡ true
below_turned x y e = ap is_lt (nat_list_cmp_total.antisymm y x ∙ ap ordering_reverse e)

same_name : (x y : List ℕ) → slice_cmp nat_cmp x y ≡ Equal → x ≡ y
same_name x y e = slice_cmp-IsAntisymmetric nat_cmp-IsAntisymmetric x y e

rises_behind : (x name : List ℕ) (f : Field) (ms : Row) → is_lt (slice_cmp nat_cmp x name) ≡ true → rises (x ∷ names_of ms) ≡ true → rises (x ∷ names_of (put_field name f ms)) ≡ true
rises_behind x name f [] lt h = and_from _ true lt refl
rises_behind x name f (m ∷ ms) lt h = by (slice_cmp nat_cmp m.0 name) refl (λ l g. rises_behind m.0 name f ms l g)
  where
    parts : (is_lt (slice_cmp nat_cmp x m.0) ≡ true) × (rises (m.0 ∷ names_of ms) ≡ true)
    parts = and_parts (is_lt (slice_cmp nat_cmp x m.0)) (rises (m.0 ∷ names_of ms)) h

    by : (o : Ordering) → slice_cmp nat_cmp m.0 name ≡ o → (is_lt (slice_cmp nat_cmp m.0 name) ≡ true → rises (m.0 ∷ names_of ms) ≡ true → rises (m.0 ∷ names_of (put_field name f ms)) ≡ true) →
        rises (x ∷ names_of (elim o as (λ _. Row) [ Less ↦ m ∷ put_field name f ms | Equal ↦ (name, f) ∷ ms | Greater ↦ (name, f) ∷ m ∷ ms ])) ≡ true
    by Less e more = and_from (is_lt (slice_cmp nat_cmp x m.0)) (rises (m.0 ∷ names_of (put_field name f ms))) parts.0 (more (ap is_lt e) parts.1)
    by Equal e more = and_from (is_lt (slice_cmp nat_cmp x name)) (rises (name ∷ names_of ms)) lt (subst (λ n. rises (n ∷ names_of ms) ≡ true) (same_name m.0 name e) parts.1)
    by Greater e more = and_from (is_lt (slice_cmp nat_cmp x name)) _ lt (and_from (is_lt (slice_cmp nat_cmp name m.0)) (rises (m.0 ∷ names_of ms)) (below_turned m.0 name e) parts.1)

rises_put : (name : List ℕ) (f : Field) (ms : Row) → rises (names_of ms) ≡ true → rises (names_of (put_field name f ms)) ≡ true
rises_put name f [] h = refl
rises_put name f (m ∷ ms) h = by (slice_cmp nat_cmp m.0 name) refl
  where
    by : (o : Ordering) → slice_cmp nat_cmp m.0 name ≡ o → rises (names_of (elim o as (λ _. Row) [ Less ↦ m ∷ put_field name f ms | Equal ↦ (name, f) ∷ ms | Greater ↦ (name, f) ∷ m ∷ ms ])) ≡ true
    by Less e = rises_behind m.0 name f ms (ap is_lt e) h
    by Equal e = subst (λ n. rises (n ∷ names_of ms) ≡ true) (same_name m.0 name e) h
    by Greater e = and_from (is_lt (slice_cmp nat_cmp name m.0)) (rises (m.0 ∷ names_of ms)) (below_turned m.0 name e) h

rises_with : (name : List ℕ) (f : Option Field) (ms : Row) → rises (names_of ms) ≡ true → rises (names_of (with_field name f ms)) ≡ true
rises_with name None ms h = h
rises_with name (Some f) ms h = rises_put name f ms h

module _ (l r : Option Row) where
  all_rise : (found : Row) (set : Set) → rises (names_of found) ≡ true → rises (names_of (fields_onto found set l r)) ≡ true
  all_rise found [] h = h
  all_rise found (m ∷ set) h = all_rise (with_field m.0 (eval m.1 l r) found) set (rises_with m.0 (eval m.1 l r) found h)

  most : (found : Row) (set : Set) → length (fields_onto found set l r) ≤ length found + length set
  most found [] = omega arith
  most found (m ∷ set) = let g = most (with_field m.0 (eval m.1 l r) found) set in let h = with_most m.0 (eval m.1 l r) found in omega (arith, g, h)

  some : (found : Row) (set : Set) → 1 ≤ length found → 1 ≤ length (fields_onto found set l r)
  some found [] h = h
  some found (m ∷ set) h = some (with_field m.0 (eval m.1 l r) found) set (with_some m.0 (eval m.1 l r) found h)

  none_or_some : (set : Set) → (b : Bool) → are_absent set l r ≡ b → NoneOrSome b (fields_onto [] set l r)
  none_or_some [] true e = refl
  none_or_some [] false e = absurd cc
  none_or_some (m ∷ set) b e = by (eval m.1 l r) b e (none_or_some set)
    where
      by : (f : Option Field) (b : Bool) → is_none f && are_absent set l r ≡ b → ((b : Bool) → are_absent set l r ≡ b → NoneOrSome b (fields_onto [] set l r)) →
          NoneOrSome b (fields_onto (with_field m.0 f []) set l r)
      by None b e more = more b e
      by (Some f) true e more = absurd cc
      by (Some f) false e more = some (put_field m.0 f []) set (put_some m.0 f [])

-- ---- a row
made_row : (ms : Row) (b : Bool) → NoneOrSome b ms → length ms ≤ 64 → rises (names_of ms) ≡ true → is_none (row_of ms) ≡ b
made_row ms true e few h = ap (λ ms. is_none (row_of ms)) e
made_row [] false e few h = absurd (omega (arith, e))
made_row (m ∷ ms) false e few h = by (suc (length ms) == 0) (ne_eqb (suc (length ms)) 0 (λ (q : suc (length ms) ≡ 0). absurd (omega (arith, q)))) (nat_le (suc (length ms)) 64) (le-leb (suc (length ms)) 64 few) (rises (names_of (m ∷ ms))) h
  where
    by : (z : Bool) → z ≡ false → (a : Bool) → a ≡ true → (c : Bool) → c ≡ true → is_none (cond (cond z false (cond a c false)) (Some (m ∷ ms)) None) ≡ false
    by false v true x true y = refl
    by false v true x false y = absurd cc
    by false v false x c y = absurd cc
    by true v a x c y = absurd cc

pub projections_are_rows : ProjectionsAreRows
projections_are_rows set l r few =
    let most = most l r [] set in
    made_row (fields_onto [] set l r) (are_absent set l r) (none_or_some l r set (are_absent set l r) refl) (omega (arith, most, few)) (all_rise l r [] set refl)
