-- The rows of a node over all partitions of its changelog, key by key.
use Rattle.std.proofs.Common.{◌≡◌, ℕ, zero, suc, ◌<◌, ◌≤◌, Bool, true, false, cond, List, [], ◌∷◌, Option, Some, None, fold, refl, sym, ap, ap₂, ◌∙◌, arith, ⊎_elim}
use Rattle.std.specs.Prelude.{option_map, ◌==◌}
use Rattle.std.specs.Ordering.{eq_by_cmp}
use Rattle.std.specs.Cmp.Lexicographic.{nat_list_cmp_total}
use Rattle.std.proofs.lemmas.Bool.{eq-eqb, eqb-true, true≢false, cases_lt}
use Rattle.std.proofs.lemmas.List.Sums.{fold-append}
use Rattle.ks_record.specs.Texts.{key_from}
use Rattle.ks_expr.specs.Eval.{Row}
use Rattle.ks_plan.specs.Plan.{Plan, Kind}
use Rattle.ks_plan.specs.Layout.{up_to, kind_at}
use Rattle.ks_def_runs.specs.FinMap as fin
use Rattle.ks_def_runs.specs.FinMap.{FinMap}
use Rattle.ks_def_runs.specs.Bytes.{by_bytes}
use Rattle.ks_query.specs.Streams.{Key}
use Rattle.ks_history.specs.State.{State}
use Rattle.ks_def_tasks.specs.Messages.{Stored, shown}
use Rattle.ks_def_tasks.specs.Bytes.{with_pair, map_from, stored_from}
use Rattle.ks_law_settled.specs.Folded.{row_from, with_rows, fold_pairs, rows_of}

-- a row that is found, over what was there
abbrev pub over : Option Row → Option Row → Option Row
over None old = old
over (Some row) old = Some row

over_none : (row : Option Row) → over row None ≡ row
over_none None = refl
over_none (Some row) = refl

abbrev Stores : Type 0
Stores = FinMap by_bytes Stored

abbrev Rows : Type 0
Rows = FinMap by_bytes Row

over_pair : (rows : Rows) (stored : Stores) (old : Option Row) (k : Key) (ok : Option Key) (ox : Option Stored) → fin.get rows k ≡ over (option_map shown (fin.get stored k)) old →
    fin.get (with_pair by_bytes rows ok (option_map shown ox)) k ≡ over (option_map shown (fin.get (with_pair by_bytes stored ok ox) k)) old
over_pair rows stored old k None None h = h
over_pair rows stored old k None (Some x) h = h
over_pair rows stored old k (Some c) None h = h
over_pair rows stored old k (Some c) (Some x) h =
    fin.get-insert nat_list_cmp_total rows c (shown x) k ∙ by (eq_by_cmp by_bytes k c)
    ∙ ap (λ o. over (option_map shown o) old) (sym (fin.get-insert nat_list_cmp_total stored c x k))
  where
    by : (b : Bool) → cond b (Some (shown x)) (fin.get rows k) ≡ over (option_map shown (cond b (Some x) (fin.get stored k))) old
    by true = refl
    by false = h

over_pairs : (kind : Kind) (rows : Rows) (stored : Stores) (old : Option Row) (k : Key) (es : List (List ℕ × List ℕ)) → fin.get rows k ≡ over (option_map shown (fin.get stored k)) old →
    fin.get (with_rows kind rows es) k ≡ over (option_map shown (fin.get (fold (λ m e. with_pair by_bytes m (key_from e.0) (stored_from kind e.1)) stored es) k)) old
over_pairs kind rows stored old k [] h = h
over_pairs kind rows stored old k (e ∷ es) h =
    over_pairs kind (with_pair by_bytes rows (key_from e.0) (row_from kind e.1)) (with_pair by_bytes stored (key_from e.0) (stored_from kind e.1)) old k es
    (over_pair rows stored old k (key_from e.0) (stored_from kind e.1) h)

with_rows_get : (kind : Kind) (rows : Rows) (es : List (List ℕ × List ℕ)) (k : Key) →
    fin.get (with_rows kind rows es) k ≡ over (option_map shown (fin.get (map_from by_bytes key_from (stored_from kind) es) k)) (fin.get rows k)
with_rows_get kind rows es k = over_pairs kind rows fin.empty (fin.get rows k) k es (ap (λ o. over (option_map shown o) (fin.get rows k)) (sym (fin.get-empty by_bytes k)))

module _ (p : Plan) (s : State) (n : ℕ) (k : Key) where
  -- what one partition has at the key
  abbrev pub in_part : ℕ → Option Row
  in_part part = option_map shown (fin.get (map_from by_bytes key_from (stored_from (kind_at p n)) (fold_pairs p s n part)) k)

  one_more : (j : ℕ) → fin.get (rows_of p s n (up_to (suc j))) k ≡ over (in_part j) (fin.get (rows_of p s n (up_to j)) k)
  one_more j =
      ap (λ (m : Rows). fin.get m k) (fold-append (λ rows part. with_rows (kind_at p n) rows (fold_pairs p s n part)) fin.empty (up_to j) (j ∷ []))
      ∙ with_rows_get (kind_at p n) (rows_of p s n (up_to j)) (fold_pairs p s n j) k

  module _ (home : ℕ) (row : Option Row) (only : (part : ℕ) → in_part part ≡ cond (part == home) row None) where
    abbrev Reached : ℕ → Type 0
    Reached j = (home < j → fin.get (rows_of p s n (up_to j)) k ≡ row) × (j ≤ home → fin.get (rows_of p s n (up_to j)) k ≡ None)

    reached : (j : ℕ) → Reached j
    reached zero = (λ lt. absurd (omega (arith, lt)), λ le. fin.get-empty by_bytes k)
    reached (suc j) = by (j == home) refl (reached j)
      where
        by : (b : Bool) → (j == home) ≡ b → Reached j → Reached (suc j)
        by true e h =
            let is : j ≡ home = eqb-true j home e in
            let at : fin.get (rows_of p s n (up_to (suc j))) k ≡ row = one_more j ∙ ap₂ over (only j ∙ ap (λ b. cond b row None) e) (h.1 (omega (arith, is))) ∙ over_none row in
            (λ lt. at, λ le. absurd (omega (arith, is, le)))
        by false e h =
            let ne : j ≡ home → ⊥ = λ is. true≢false (sym (eq-eqb j home is) ∙ e) in
            let stays : fin.get (rows_of p s n (up_to (suc j))) k ≡ fin.get (rows_of p s n (up_to j)) k = one_more j ∙ ap (λ o. over o (fin.get (rows_of p s n (up_to j)) k)) (only j ∙ ap (λ b. cond b row None) e) in
            (λ lt. stays ∙ h.0 (omega (arith, lt)), λ le. stays ∙ h.1 (omega (arith, le)))

    -- the rows of all partitions at a key whose row stands in one of them, or in none
    pub rows_at_key : (j : ℕ) → (j ≤ home → row ≡ None) → fin.get (rows_of p s n (up_to j)) k ≡ row
    rows_at_key j none = ⊎_elim (λ (lt : home < j). (reached j).0 lt) (λ (le : j ≤ home). (reached j).1 le ∙ sym (none le)) (cases_lt home j)
