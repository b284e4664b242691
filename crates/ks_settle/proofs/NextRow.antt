-- The next row of two lists that are put together.
use Rattle.std.proofs.Common.{◌≡◌, List, [], ◌∷◌, ◌++◌, length, drop, Option, Some, None, refl, sym, ap, subst, ◌∙◌, arith, T}
use Rattle.std.specs.Prelude.{MatchOption}
use Rattle.std.specs.Option.{option_to_list}
use Rattle.std.specs.declared.cmp.Ordering.{Ordering}
use Rattle.std.specs.declared.cmp.Ordering.TheVariants.{Less, Equal, Greater}
use Rattle.std.specs.Ordering.{match_ordering, is_lt, is_eq, is_gt}
use Rattle.ks_query.specs.declared.table.TableRow.{TableRow}
use Rattle.ks_settle.specs.Rows.{first_of, merged_rows}

no_more : (xs : List TableRow) → xs ≡ drop 1 xs → xs ≡ []
no_more [] e = refl
no_more (x ∷ xs) e = absurd (omega (arith, ap length e))

with_none : (xs : List TableRow) → merged_rows xs [] ≡ xs
with_none [] = refl
with_none (x ∷ xs) = refl

is_less : (a : Ordering) → a ≡ Less → T (is_lt a)
is_less a e = subst (λ r. T (is_lt r)) (sym e) tt

is_greater : (a : Ordering) → a ≡ Greater → T (is_gt a)
is_greater a e = subst (λ r. T (is_gt r)) (sym e) tt

is_equal : (a : Ordering) → a ≡ Equal → T (is_eq a)
is_equal a e = subst (λ r. T (is_eq r)) (sym e) tt

-- ---- a row of the first list
first_less : (x : TableRow) (xs ys : List TableRow) → first_of (x ∷ xs) ys ≡ Less → merged_rows (x ∷ xs) ys ≡ x ∷ merged_rows xs ys
first_less x xs [] f = ap (λ l. x ∷ l) (sym (with_none xs))
first_less x xs (y ∷ ys) f = ap (λ o. match_ordering o (x ∷ merged_rows xs (y ∷ ys)) (x ∷ merged_rows xs ys) (y ∷ merged_rows (x ∷ xs) ys)) f

ends : (ys : List TableRow) → first_of [] ys ≡ Less → ys ≡ []
ends [] f = refl
ends (y ∷ ys) f = absurd (is_less Greater f)

pub take_less : (xs ys more : List TableRow) (r : Option TableRow) → first_of xs ys ≡ Less → xs ≡ option_to_list r ++ more → more ≡ drop 1 xs →
    MatchOption r (merged_rows xs ys ≡ []) (λ row. merged_rows xs ys ≡ row ∷ merged_rows more ys)
take_less xs ys more None f e d =
    let empty = no_more xs (e ∙ d) in
    ap (λ l. merged_rows l ys) empty ∙ ends ys (ap (λ l. first_of l ys) (sym empty) ∙ f)
take_less xs ys more (Some x) f e d = ap (λ l. merged_rows l ys) e ∙ first_less x more ys (ap (λ l. first_of l ys) (sym e) ∙ f)

-- ---- a row of the second
first_greater : (xs : List TableRow) (y : TableRow) (ys : List TableRow) → first_of xs (y ∷ ys) ≡ Greater → merged_rows xs (y ∷ ys) ≡ y ∷ merged_rows xs ys
first_greater [] y ys f = refl
first_greater (x ∷ xs) y ys f = ap (λ o. match_ordering o (x ∷ merged_rows xs (y ∷ ys)) (x ∷ merged_rows xs ys) (y ∷ merged_rows (x ∷ xs) ys)) f

not_greater : (xs : List TableRow) → first_of xs [] ≡ Greater → ⊥
not_greater [] f = is_greater Less f
not_greater (x ∷ xs) f = is_greater Less f

pub take_greater : (xs ys more : List TableRow) (r : Option TableRow) → first_of xs ys ≡ Greater → ys ≡ option_to_list r ++ more → more ≡ drop 1 ys →
    MatchOption r (merged_rows xs ys ≡ []) (λ row. merged_rows xs ys ≡ row ∷ merged_rows xs more)
take_greater xs ys more None f e d = absurd (not_greater xs (ap (first_of xs) (sym (no_more ys (e ∙ d))) ∙ f))
take_greater xs ys more (Some y) f e d = ap (merged_rows xs) e ∙ first_greater xs y more (ap (first_of xs) (sym e) ∙ f)

-- ---- a row of each, of which the first's stays
first_equal : (x y : TableRow) (xs ys : List TableRow) → first_of (x ∷ xs) (y ∷ ys) ≡ Equal → merged_rows (x ∷ xs) (y ∷ ys) ≡ x ∷ merged_rows xs ys
first_equal x y xs ys f = ap (λ o. match_ordering o (x ∷ merged_rows xs (y ∷ ys)) (x ∷ merged_rows xs ys) (y ∷ merged_rows (x ∷ xs) ys)) f

not_equal : (xs : List TableRow) → first_of xs [] ≡ Equal → ⊥
not_equal [] f = is_equal Less f
not_equal (x ∷ xs) f = is_equal Less f

not_equal_none : (ys : List TableRow) → first_of [] ys ≡ Equal → ⊥
not_equal_none [] f = is_equal Less f
not_equal_none (y ∷ ys) f = is_equal Greater f

pub take_equal : (xs ys more others : List TableRow) (r s : Option TableRow) → first_of xs ys ≡ Equal → xs ≡ option_to_list r ++ more → more ≡ drop 1 xs → ys ≡ option_to_list s ++ others → others ≡ drop 1 ys →
    MatchOption r (merged_rows xs ys ≡ []) (λ row. merged_rows xs ys ≡ row ∷ merged_rows more others)
take_equal xs ys more others r None f e d e2 d2 = absurd (not_equal xs (ap (first_of xs) (sym (no_more ys (e2 ∙ d2))) ∙ f))
take_equal xs ys more others None (Some y) f e d e2 d2 = absurd (not_equal_none ys (ap (λ l. first_of l ys) (sym (no_more xs (e ∙ d))) ∙ f))
take_equal xs ys more others (Some x) (Some y) f e d e2 d2 =
    ap (λ l. merged_rows l ys) e ∙ ap (merged_rows (x ∷ more)) e2 ∙ first_equal x y more others (ap (first_of (x ∷ more)) (sym e2) ∙ ap (λ l. first_of l ys) (sym e) ∙ f)
