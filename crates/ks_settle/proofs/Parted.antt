-- The rows of some partitions are those of two parts of them, put together.
use Rattle.std.proofs.Common.{◌≡◌, ℕ, zero, suc, ◌+◌, T, true, List, [], ◌∷◌, ◌++◌, map, Option, Some, None, refl, sym, ap, subst, ◌∙◌, arith}
use Rattle.std.specs.declared.cmp.Ordering.{Ordering}
use Rattle.std.specs.declared.cmp.Ordering.TheVariants.{Less, Equal, Greater}
use Rattle.std.specs.Ordering.{match_ordering, is_lt}
use Rattle.std.specs.Set.{merge_step}
use Rattle.std.specs.FinMap.{IsAntisymmetric, nat_cmp-IsAntisymmetric, slice_cmp-IsAntisymmetric}
use Rattle.std.specs.FinMap.Entries.{below_all, is_sorted}
use Rattle.std.proofs.lemmas.Cmp.{nat_list_cmp_total}
use Rattle.std.proofs.lemmas.List.{append_assoc, append-nil}
use Rattle.ks_record.specs.Texts.{key_from}
use Rattle.ks_row.proofs.Spelled.{key_takes}
use Rattle.ks_expr.specs.Eval.{Row}
use Rattle.ks_plan.specs.Drafts.{OpView}
use Rattle.ks_plan.specs.Layout.{up_to}
use Rattle.ks_def_runs.specs.Bytes.{by_bytes}
use Rattle.ks_def_runs.specs.FinMap.{entries_sorted}
use Rattle.ks_def_runs.proofs.Tables.{head_of, tail_of}
use Rattle.ks_history.specs.State.{State}
use Rattle.ks_history.specs.Faithful.{fold}
use Rattle.ks_query.specs.declared.table.TableRow.{TableRow}
use Rattle.ks_query.specs.Printed.{plain_row}
use Rattle.ks_query.specs.Streams.{Key}
use Rattle.ks_settle.specs.Rows.{Rows, row_by, put_row, put_pairs, pairs_in, part_in, put_parts, parts_from, push_row, push_pairs, merged_rows}
use Rattle.ks_settle.proofs.Folds.{put_is}
use Rattle.ks_settle.proofs.Merges.{both_true, merge, put_each, put_each-empty, put_lists, put_lists-both}

same_bytes : IsAntisymmetric by_bytes
same_bytes = slice_cmp-IsAntisymmetric nat_cmp-IsAntisymmetric

-- ---- the rows that pairs spell
abbrev row_onto : Option Key → Option Row → Rows → Rows
row_onto (Some k) (Some r) rows = (k, r) ∷ rows
row_onto _ _ rows = rows

abbrev rows_read : OpView → List (List ℕ × List ℕ) → Rows
rows_read op [] = []
rows_read op (e ∷ es) = row_onto (key_from e.0) (row_by op e.1) (rows_read op es)

-- a list of rows with those read behind it
pushed : (k : Option Key) (r : Option Row) (found : List TableRow) (more : Rows) → push_row found k r ++ map plain_row more ≡ found ++ map plain_row (row_onto k r more)
pushed (Some k) (Some r) found more = append_assoc found (plain_row (k, r) ∷ []) (map plain_row more)
pushed (Some k) None found more = refl
pushed None (Some r) found more = refl
pushed None None found more = refl

pushed_all : (op : OpView) (found : List TableRow) (es : List (List ℕ × List ℕ)) → push_pairs op found es ≡ found ++ map plain_row (rows_read op es)
pushed_all op found [] = sym (append-nil found)
pushed_all op found (e ∷ es) =
    pushed_all op (push_row found (key_from e.0) (row_by op e.1)) es ∙ pushed (key_from e.0) (row_by op e.1) found (rows_read op es)

-- entries with those read put in
put_onto : (k : Option Key) (r : Option Row) (rows more : Rows) → put_each by_bytes (put_row rows k r) more ≡ put_each by_bytes rows (row_onto k r more)
put_onto (Some k) (Some r) rows more = ap (λ l. put_each by_bytes l more) (put_is rows k r)
put_onto (Some k) None rows more = refl
put_onto None (Some r) rows more = refl
put_onto None None rows more = refl

put_all : (op : OpView) (rows : Rows) (es : List (List ℕ × List ℕ)) → put_pairs op rows es ≡ put_each by_bytes rows (rows_read op es)
put_all op rows [] = refl
put_all op rows (e ∷ es) =
    put_all op (put_row rows (key_from e.0) (row_by op e.1)) es ∙ put_onto (key_from e.0) (row_by op e.1) rows (rows_read op es)

-- they rise as the pairs do
below_onto : (low b : List ℕ) (k : Option Key) (r : Option Row) (rows : Rows) → key_from b ≡ k → T (is_lt (by_bytes low b)) → T (below_all by_bytes low rows) → T (below_all by_bytes low (row_onto k r rows))
below_onto low b (Some k) (Some r) rows e l h = both_true _ _ (subst (λ (z : List ℕ). T (is_lt (by_bytes low z))) (key_takes b k e).0 l) h
below_onto low b (Some k) None rows e l h = h
below_onto low b None (Some r) rows e l h = h
below_onto low b None None rows e l h = h

below_read : (op : OpView) (low : List ℕ) (es : List (List ℕ × List ℕ)) → T (below_all by_bytes low es) → T (below_all by_bytes low (rows_read op es))
below_read op low [] h = tt
below_read op low (e ∷ es) h = below_onto low e.0 (key_from e.0) (row_by op e.1) (rows_read op es) refl (head_of _ _ h) (below_read op low es (tail_of _ _ h))

rises_onto : (b : List ℕ) (k : Option Key) (r : Option Row) (rows : Rows) → key_from b ≡ k → T (below_all by_bytes b rows) → T (is_sorted by_bytes rows) → T (is_sorted by_bytes (row_onto k r rows))
rises_onto b (Some k) (Some r) rows e l h = both_true _ _ (subst (λ (z : List ℕ). T (below_all by_bytes z rows)) (key_takes b k e).0 l) h
rises_onto b (Some k) None rows e l h = h
rises_onto b None (Some r) rows e l h = h
rises_onto b None None rows e l h = h

rises_read : (op : OpView) (es : List (List ℕ × List ℕ)) → T (is_sorted by_bytes es) → T (is_sorted by_bytes (rows_read op es))
rises_read op [] h = tt
rises_read op (e ∷ es) h =
    rises_onto e.0 (key_from e.0) (row_by op e.1) (rows_read op es) refl (below_read op e.0 es (head_of _ _ h)) (rises_read op es (tail_of _ _ h))

rows_of_one : (op : OpView) (es : List (List ℕ × List ℕ)) → T (is_sorted by_bytes es) → push_pairs op [] es ≡ map plain_row (put_pairs op [] es)
rows_of_one op es h =
    pushed_all op [] es ∙ ap (map plain_row) (sym (put_each-empty by_bytes nat_list_cmp_total same_bytes (rows_read op es) (rises_read op es h)) ∙ sym (put_all op [] es))

-- ---- rows as they are printed are put together as the entries are
merged_step : (x : Key × Row) (xs : Rows) (on : Rows → Rows) (printed : List TableRow → List TableRow) → ((ys : Rows) → printed (map plain_row ys) ≡ map plain_row (on ys)) → (ys : Rows) →
    merge_step (λ (x y : TableRow). by_bytes x.key y.key) true (plain_row x) (map plain_row xs) printed (map plain_row ys) ≡ map plain_row (merge_step (λ (x y : Key × Row). by_bytes x.0 y.0) true x xs on ys)
merged_step x xs on printed same [] = refl
merged_step x xs on printed same (y ∷ ys) =
    by (by_bytes x.0 y.0) _ _ _ _ _ _ (ap (λ l. plain_row x ∷ l) (same (y ∷ ys))) (ap (λ l. plain_row x ∷ l) (same ys)) (ap (λ l. plain_row y ∷ l) (merged_step x xs on printed same ys))
  where
    by : (o : Ordering) (a b c : List TableRow) (d e f : Rows) → a ≡ map plain_row d → b ≡ map plain_row e → c ≡ map plain_row f → match_ordering o a b c ≡ map plain_row (match_ordering o d e f)
    by Less a b c d e f p q r = p
    by Equal a b c d e f p q r = q
    by Greater a b c d e f p q r = r

merged_is : (xs ys : Rows) → merged_rows (map plain_row xs) (map plain_row ys) ≡ map plain_row (merge by_bytes xs ys)
merged_is [] ys = refl
merged_is (x ∷ xs) ys = merged_step x xs (merge by_bytes xs) (merged_rows (map plain_row xs)) (λ zs. merged_is xs zs) ys

-- ---- the numbers of partitions
from_none : (n : ℕ) → parts_from 0 n ≡ up_to n
from_none zero = refl
from_none (suc n) = ap (λ l. l ++ (0 + n) ∷ []) (from_none n) ∙ ap (λ (k : ℕ). up_to n ++ k ∷ []) (omega arith)

no_more : (a : ℕ) → a + 0 ≡ a
no_more a = omega arith

one_later : (a b : ℕ) → a + suc b ≡ suc (a + b)
one_later a b = omega arith

in_two : (from a b : ℕ) → parts_from from (a + b) ≡ parts_from from a ++ parts_from (from + a) b
in_two from a zero = ap (λ (k : ℕ). parts_from from k) (no_more a) ∙ sym (append-nil (parts_from from a))
in_two from a (suc b) =
    ap (λ (k : ℕ). parts_from from k) (one_later a b) ∙ ap (λ l. l ++ (from + (a + b)) ∷ []) (in_two from a b) ∙ ap (λ (k : ℕ). (parts_from from a ++ parts_from (from + a) b) ++ k ∷ []) (omega arith)
    ∙ append_assoc (parts_from from a) (parts_from (from + a) b) ((from + a + b) ∷ [])

module _ (op : OpView) (s : State) (topic : ℕ) where
  -- the rows of a partition
  abbrev rows_at : ℕ → Rows
  rows_at n = rows_read op (pairs_in s (part_in topic n))

  abbrev put_up : List ℕ → Rows
  put_up ns = put_parts op s topic [] ns

  parts_are : (rows : Rows) (ns : List ℕ) → put_parts op s topic rows ns ≡ put_lists by_bytes rows_at rows ns
  parts_are rows [] = refl
  parts_are rows (n ∷ ns) =
      parts_are (put_pairs op rows (pairs_in s (part_in topic n))) ns ∙ ap (λ l. put_lists by_bytes rows_at l ns) (put_all op rows (pairs_in s (part_in topic n)))

  parts_in_two : (ms ns : List ℕ) → put_up (ms ++ ns) ≡ merge by_bytes (put_up ns) (put_up ms)
  parts_in_two ms ns =
      parts_are [] (ms ++ ns)
      ∙ put_lists-both by_bytes rows_at nat_list_cmp_total (λ n. rises_read op (pairs_in s (part_in topic n)) (entries_sorted (fold s (part_in topic n)))) same_bytes ms ns
      ∙ ap (λ l. merge by_bytes l (put_lists by_bytes rows_at [] ms)) (sym (parts_are [] ns)) ∙ ap (merge by_bytes (put_up ns)) (sym (parts_are [] ms))

  pub rows_of_two : (from count half middle rest : ℕ) (early late : List TableRow) → middle ≡ from + half → half + rest ≡ count →
      early ≡ map plain_row (put_parts op s topic [] (parts_from from half)) → late ≡ map plain_row (put_parts op s topic [] (parts_from middle rest)) →
      merged_rows late early ≡ map plain_row (put_parts op s topic [] (parts_from from count))
  rows_of_two from count half middle rest early late m c e l =
      ap (λ r. merged_rows r early) l ∙ ap (merged_rows (map plain_row (put_up (parts_from middle rest)))) e
      ∙ merged_is (put_up (parts_from middle rest)) (put_up (parts_from from half)) ∙ ap (map plain_row) (sym (parts_in_two (parts_from from half) (parts_from middle rest)))
      ∙ ap (λ (k : ℕ). map plain_row (put_up (parts_from from half ++ parts_from k rest))) m
      ∙ ap (λ ns. map plain_row (put_up ns)) (sym (in_two from half rest)) ∙ ap (λ (k : ℕ). map plain_row (put_up (parts_from from k))) c

  pub none_left : (from count : ℕ) → count ≡ 0 → [] ≡ map plain_row (put_parts op s topic [] (parts_from from count))
  none_left from count e = ap (λ (k : ℕ). map plain_row (put_up (parts_from from k))) (sym e)

  pub rows_of_last : (from count : ℕ) → count ≡ 1 → map plain_row (put_pairs op [] (pairs_in s (part_in topic from))) ≡ map plain_row (put_parts op s topic [] (parts_from from count))
  rows_of_last from count e =
      ap (λ (k : ℕ). map plain_row (put_pairs op [] (pairs_in s (part_in topic k)))) (omega arith) ∙ ap (λ (k : ℕ). map plain_row (put_up (parts_from from k))) (sym e)

  pub rows_of_part : (n : ℕ) (found new : List TableRow) (slice pairs : List (List ℕ × List ℕ)) → found ≡ [] → slice ≡ pairs → pairs ≡ pairs_in s (part_in topic n) → new ≡ push_pairs op found slice →
      new ≡ map plain_row (put_pairs op [] (pairs_in s (part_in topic n)))
  rows_of_part n found new slice pairs f same kept is =
      is ∙ ap (λ l. push_pairs op l slice) f ∙ ap (push_pairs op []) (same ∙ kept) ∙ rows_of_one op (pairs_in s (part_in topic n)) (entries_sorted (fold s (part_in topic n)))

-- ---- operations whose changelogs are read alike
module _ (one op : OpView) (same : (bytes : List ℕ) → row_by one bytes ≡ row_by op bytes) where
  same_pairs : (rows : Rows) (es : List (List ℕ × List ℕ)) → put_pairs one rows es ≡ put_pairs op rows es
  same_pairs rows [] = refl
  same_pairs rows (e ∷ es) = same_pairs (put_row rows (key_from e.0) (row_by one e.1)) es ∙ ap (λ r. put_pairs op (put_row rows (key_from e.0) r) es) (same e.1)

  same_parts : (s : State) (topic : ℕ) (rows : Rows) (ns : List ℕ) → put_parts one s topic rows ns ≡ put_parts op s topic rows ns
  same_parts s topic rows [] = refl
  same_parts s topic rows (n ∷ ns) =
      same_parts s topic (put_pairs one rows (pairs_in s (part_in topic n))) ns ∙ ap (λ l. put_parts op s topic l ns) (same_pairs rows (pairs_in s (part_in topic n)))

  pub all_rows : (s : State) (topic n : ℕ) → map plain_row (put_parts one s topic [] (parts_from 0 n)) ≡ map plain_row (put_parts op s topic [] (up_to n))
  all_rows s topic n = ap (λ ns. map plain_row (put_parts one s topic [] ns)) (from_none n) ∙ ap (map plain_row) (same_parts s topic [] (up_to n))
