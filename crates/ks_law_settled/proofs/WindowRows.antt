-- The windows of a windowed count over all partitions of its changelog, key by key.
use Rattle.std.proofs.Common.{◌≡◌, ℕ, zero, suc, ◌<◌, ◌≤◌, Bool, true, false, cond, List, [], ◌∷◌, Option, Some, None, fold, refl, sym, ap, ap₂, ◌∙◌, arith}
use Rattle.std.specs.Prelude.{option_map, ◌==◌}
use Rattle.std.specs.Ordering.{eq_by_cmp}
use Rattle.std.proofs.lemmas.Bool.{eq-eqb, eqb-true, true≢false}
use Rattle.std.proofs.lemmas.List.Sums.{fold-append}
use Rattle.ks_expr.specs.Eval.{Row}
use Rattle.ks_plan.specs.Plan.{Plan}
use Rattle.ks_plan.specs.Layout.{up_to}
use Rattle.ks_def_runs.specs.FinMap as fin
use Rattle.ks_def_runs.specs.FinMap.{FinMap}
use Rattle.ks_wire.specs.declared.values.Agg.{Agg}
use Rattle.ks_wire.specs.Reading.{agg_from, window_key_from}
use Rattle.ks_query.specs.Windows.{WindowKey, by_window}
use Rattle.ks_query.specs.Aggregates.{agg_row}
use Rattle.ks_history.specs.State.{State}
use Rattle.ks_def_tasks.specs.Bytes.{with_pair, map_from}
use Rattle.ks_law_quiescence.proofs.WindowGroups.{window_total}
use Rattle.ks_law_settled.specs.Folded.{fold_pairs}
use Rattle.ks_law_settled.proofs.Rows.{over}
use Rattle.ks_law_settled.specs.Folded.{with_windows, windows_of}

over_none : (row : Option Row) → over row None ≡ row
over_none None = refl
over_none (Some row) = refl

abbrev Counts : Type 0
Counts = FinMap by_window Agg

abbrev Rows : Type 0
Rows = FinMap by_window Row

abbrev shown_count : Option Agg → Option Row
shown_count a = option_map (agg_row true) a

over_pair : (rows : Rows) (stored : Counts) (old : Option Row) (k : WindowKey) (ok : Option WindowKey) (ox : Option Agg) → fin.get rows k ≡ over (shown_count (fin.get stored k)) old →
    fin.get (with_pair by_window rows ok (shown_count ox)) k ≡ over (shown_count (fin.get (with_pair by_window stored ok ox) k)) old
over_pair rows stored old k None None h = h
over_pair rows stored old k None (Some x) h = h
over_pair rows stored old k (Some c) None h = h
over_pair rows stored old k (Some c) (Some x) h =
    fin.get-insert window_total rows c (agg_row true x) k ∙ by (eq_by_cmp by_window k c)
    ∙ ap (λ o. over (shown_count o) old) (sym (fin.get-insert window_total stored c x k))
  where
    by : (b : Bool) → cond b (Some (agg_row true x)) (fin.get rows k) ≡ over (shown_count (cond b (Some x) (fin.get stored k))) old
    by true = refl
    by false = h

over_pairs : (rows : Rows) (stored : Counts) (old : Option Row) (k : WindowKey) (es : List (List ℕ × List ℕ)) → fin.get rows k ≡ over (shown_count (fin.get stored k)) old →
    fin.get (with_windows rows es) k ≡ over (shown_count (fin.get (fold (λ m e. with_pair by_window m (window_key_from e.0) (agg_from e.1)) stored es) k)) old
over_pairs rows stored old k [] h = h
over_pairs rows stored old k (e ∷ es) h =
    over_pairs (with_pair by_window rows (window_key_from e.0) (shown_count (agg_from e.1))) (with_pair by_window stored (window_key_from e.0) (agg_from e.1)) old k es
    (over_pair rows stored old k (window_key_from e.0) (agg_from e.1) h)

with_windows_get : (rows : Rows) (es : List (List ℕ × List ℕ)) (k : WindowKey) → fin.get (with_windows rows es) k ≡ over (shown_count (fin.get (map_from by_window window_key_from agg_from es) k)) (fin.get rows k)
with_windows_get rows es k = over_pairs rows fin.empty (fin.get rows k) k es (ap (λ o. over (shown_count o) (fin.get rows k)) (sym (fin.get-empty by_window k)))

module _ (p : Plan) (s : State) (n : ℕ) (k : WindowKey) where
  -- what one partition has at the window
  abbrev pub in_part : ℕ → Option Row
  in_part part = option_map (agg_row true) (fin.get (map_from by_window window_key_from agg_from (fold_pairs p s n part)) k)

  one_more : (j : ℕ) → fin.get (windows_of p s n (up_to (suc j))) k ≡ over (in_part j) (fin.get (windows_of p s n (up_to j)) k)
  one_more j =
      ap (λ (m : Rows). fin.get m k) (fold-append (λ rows part. with_windows rows (fold_pairs p s n part)) fin.empty (up_to j) (j ∷ []))
      ∙ with_windows_get (windows_of p s n (up_to j)) (fold_pairs p s n j) k

  module _ (home : ℕ) (row : Option Row) (only : (part : ℕ) → in_part part ≡ cond (part == home) row None) where
    abbrev Reached : ℕ → Type 0
    Reached j = (home < j → fin.get (windows_of p s n (up_to j)) k ≡ row) × (j ≤ home → fin.get (windows_of p s n (up_to j)) k ≡ None)

    reached : (j : ℕ) → Reached j
    reached zero = (λ lt. absurd (omega (arith, lt)), λ le. fin.get-empty by_window k)
    reached (suc j) = by (j == home) refl (reached j)
      where
        by : (b : Bool) → (j == home) ≡ b → Reached j → Reached (suc j)
        by true e h =
            let is : j ≡ home = eqb-true j home e in
            let at : fin.get (windows_of p s n (up_to (suc j))) k ≡ row = one_more j ∙ ap₂ over (only j ∙ ap (λ b. cond b row None) e) (h.1 (omega (arith, is))) ∙ over_none row in
            (λ lt. at, λ le. absurd (omega (arith, is, le)))
        by false e h =
            let ne : j ≡ home → ⊥ = λ is. true≢false (sym (eq-eqb j home is) ∙ e) in
            let stays : fin.get (windows_of p s n (up_to (suc j))) k ≡ fin.get (windows_of p s n (up_to j)) k = one_more j ∙ ap (λ o. over o (fin.get (windows_of p s n (up_to j)) k)) (only j ∙ ap (λ b. cond b row None) e) in
            (λ lt. stays ∙ h.0 (omega (arith, lt)), λ le. stays ∙ h.1 (omega (arith, le)))

    -- the window's row of all partitions, where it stands in one of them
    pub windows_at : (j : ℕ) → home < j → fin.get (windows_of p s n (up_to j)) k ≡ row
    windows_at j lt = (reached j).0 lt
