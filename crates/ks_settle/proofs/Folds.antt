-- The rows that are read from a changelog are the rows of its folds.
use Rattle.std.proofs.Common.{◌≡◌, ℕ, suc, ◌+◌, ◌<◌, ◌≤◌, List, [], ◌∷◌, ◌++◌, length, map, fold, cond, true, Option, Some, None, refl, sym, ap, ap₂, ◌∙◌, arith, take, drop, get_or, add-one, zero}
use Rattle.std.specs.Prelude.{slice_index, option_map}
use Rattle.std.specs.declared.cmp.Ordering.{Ordering}
use Rattle.std.specs.declared.cmp.Ordering.TheVariants.{Less, Equal, Greater}
use Rattle.std.specs.BTreeMap.{insert_entry}
use Rattle.std.specs.Ordering.{match_ordering}
use Rattle.std.specs.FinMap.Entries.{put}
use Rattle.std.proofs.lemmas.Cmp.{nat_list_cmp_total}
use Rattle.std.proofs.lemmas.List.{length-map, map-append}
use Rattle.ks_record.specs.Texts.{key_from}
use Rattle.ks_expr.specs.Eval.{Row}
use Rattle.ks_plan.specs.Drafts.{Name, DraftView, OpView, op_view}
use Rattle.ks_plan.specs.declared.node.Node.{Node}
use Rattle.ks_plan.specs.Plan.{Kind, plan_of, known_nodes, node_number}
use Rattle.ks_plan.specs.Layout.{up_to, kind_at, topics_of, parts_of_topic}
use Rattle.ks_def_runs.specs.Bytes.{by_bytes}
use Rattle.ks_def_runs.specs.FinMap as fin
use Rattle.ks_def_runs.specs.FinMap.{FinMap, entries-insert}
use Rattle.ks_history.specs.State.{State, Setup, IsPart}
use Rattle.ks_query.specs.declared.table.Table.{Table}
use Rattle.ks_query.specs.declared.table.TableRow.{TableRow}
use Rattle.ks_query.specs.Printed.{plain_row, window_row}
use Rattle.ks_query.specs.Windows.{WindowKey, by_window}
use Rattle.ks_query.specs.Aggregates.{agg_row}
use Rattle.ks_wire.specs.Reading.{agg_from, window_key_from}
use Rattle.ks_def_tasks.proofs.Counts.{window_total}
use Rattle.ks_query.specs.Streams.{Key}
use Rattle.ks_def_tasks.specs.Bytes.{with_pair}
use Rattle.ks_law_settled.specs.Folded as folded
use Rattle.ks_settle.specs.Rows.{Rows, row_by, put_row, put_pairs, pairs_in, part_in, put_parts, counts_windows, IsKept, IsPrinted}
use Rattle.ks_settle.specs.Windows as windows
use Rattle.ks_settle.specs.Windows.{Windows, put_window}

put_first : (o : Ordering) (k : Key) (v : Row) (e : Key × Row) (es : Rows) → by_bytes k e.0 ≡ o → insert_entry by_bytes es k v ≡ put by_bytes k v es →
    match_ordering o ((k, v) ∷ e ∷ es) ((e.0, v) ∷ es) (e ∷ insert_entry by_bytes es k v) ≡ put by_bytes k v (e ∷ es)
put_first Less k v e es o h = rw o refl
put_first Equal k v e es o h = rw o refl
put_first Greater k v e es o h = rw o (ap (λ l. e ∷ l) h)

pub put_is : (es : Rows) (k : Key) (v : Row) → insert_entry by_bytes es k v ≡ put by_bytes k v es
put_is [] k v = refl
put_is (e ∷ es) k v = put_first (by_bytes k e.0) k v e es refl (put_is es k v)

pair_is : (m : FinMap by_bytes Row) (k : Option Key) (r : Option Row) → fin.entries (with_pair by_bytes m k r) ≡ put_row (fin.entries m) k r
pair_is m (Some k) (Some r) = entries-insert nat_list_cmp_total m k r ∙ sym (put_is (fin.entries m) k r)
pair_is m (Some k) None = refl
pair_is m None (Some r) = refl
pair_is m None None = refl

module _ (kind : Kind) (op : OpView) (same : (bytes : List ℕ) → folded.row_from kind bytes ≡ row_by op bytes) where
  pairs_are : (m : FinMap by_bytes Row) (es : List (List ℕ × List ℕ)) → fin.entries (folded.with_rows kind m es) ≡ put_pairs op (fin.entries m) es
  pairs_are m [] = refl
  pairs_are m (e ∷ es) =
      pairs_are (with_pair by_bytes m (key_from e.0) (folded.row_from kind e.1)) es
      ∙ ap (λ rows. put_pairs op rows es) (pair_is m (key_from e.0) (folded.row_from kind e.1) ∙ ap (put_row (fin.entries m) (key_from e.0)) (same e.1))

  module _ (s : State) (topic : ℕ) where
    parts_are : (m : FinMap by_bytes Row) (parts : List ℕ) → fin.entries (fold (λ rows part. folded.with_rows kind rows (pairs_in s (part_in topic part))) m parts) ≡ put_parts op s topic (fin.entries m) parts
    parts_are m [] = refl
    parts_are m (part ∷ parts) = parts_are (folded.with_rows kind m (pairs_in s (part_in topic part))) parts ∙ ap (λ rows. put_parts op s topic rows parts) (pairs_are m (pairs_in s (part_in topic part)))

no_rows : fin.entries {K = Key} {X = Row} {R = by_bytes} fin.empty ≡ []
unfolding fin.entries fin.empty
no_rows = refl

rows_are : (d : DraftView) (s : State) (name : Name) (node : Node) (topic : ℕ) → IsKept d name node topic →
    put_parts (op_view node.op) s topic [] (up_to node.parts) ≡ fin.entries (folded.node_rows (plan_of d) s (node_number (known_nodes d) name))
rows_are d s name node topic k =
    let p = plan_of d in
    let n = node_number (known_nodes d) name in
    ap (λ rows. put_parts (op_view node.op) s topic rows (up_to node.parts)) (sym no_rows)
    ∙ sym (parts_are (kind_at p n) (op_view node.op) k.op s topic fin.empty (up_to node.parts))
    ∙ ap (λ t. fin.entries (fold (λ rows part. folded.with_rows (kind_at p n) rows (pairs_in s (part_in t part))) fin.empty (up_to node.parts))) k.number
    ∙ ap (λ c. fin.entries (folded.rows_of p s n (up_to c))) k.parts

-- ---- windows
put_first_window : (o : Ordering) (k : WindowKey) (v : Row) (e : WindowKey × Row) (es : Windows) → by_window k e.0 ≡ o → insert_entry by_window es k v ≡ put by_window k v es →
    match_ordering o ((k, v) ∷ e ∷ es) ((e.0, v) ∷ es) (e ∷ insert_entry by_window es k v) ≡ put by_window k v (e ∷ es)
put_first_window Less k v e es o h = rw o refl
put_first_window Equal k v e es o h = rw o refl
put_first_window Greater k v e es o h = rw o (ap (λ l. e ∷ l) h)

put_window_is : (es : Windows) (k : WindowKey) (v : Row) → insert_entry by_window es k v ≡ put by_window k v es
put_window_is [] k v = refl
put_window_is (e ∷ es) k v = put_first_window (by_window k e.0) k v e es refl (put_window_is es k v)

window_is : (m : FinMap by_window Row) (k : Option WindowKey) (r : Option Row) → fin.entries (with_pair by_window m k r) ≡ put_window (fin.entries m) k r
window_is m (Some k) (Some r) = entries-insert window_total m k r ∙ sym (put_window_is (fin.entries m) k r)
window_is m (Some k) None = refl
window_is m None (Some r) = refl
window_is m None None = refl

windows_in : (m : FinMap by_window Row) (es : List (List ℕ × List ℕ)) → fin.entries (folded.with_windows m es) ≡ windows.put_pairs (fin.entries m) es
windows_in m [] = refl
windows_in m (e ∷ es) =
    windows_in (with_pair by_window m (window_key_from e.0) (option_map (agg_row true) (agg_from e.1))) es
    ∙ ap (λ rows. windows.put_pairs rows es) (window_is m (window_key_from e.0) (option_map (agg_row true) (agg_from e.1)))

windows_parts : (s : State) (topic : ℕ) (m : FinMap by_window Row) (parts : List ℕ) → fin.entries (fold (λ rows part. folded.with_windows rows (pairs_in s (part_in topic part))) m parts) ≡ windows.put_parts s topic (fin.entries m) parts
windows_parts s topic m [] = refl
windows_parts s topic m (part ∷ parts) =
    windows_parts s topic (folded.with_windows m (pairs_in s (part_in topic part))) parts ∙ ap (λ rows. windows.put_parts s topic rows parts) (windows_in m (pairs_in s (part_in topic part)))

no_windows : fin.entries {K = WindowKey} {X = Row} {R = by_window} fin.empty ≡ []
unfolding fin.entries fin.empty
no_windows = refl

windows_are : (d : DraftView) (s : State) (name : Name) (node : Node) (topic : ℕ) → IsKept d name node topic →
    windows.put_parts s topic [] (up_to node.parts) ≡ fin.entries (folded.node_windows (plan_of d) s (node_number (known_nodes d) name))
windows_are d s name node topic k =
    let p = plan_of d in
    let n = node_number (known_nodes d) name in
    ap (λ rows. windows.put_parts s topic rows (up_to node.parts)) (sym no_windows)
    ∙ sym (windows_parts s topic fin.empty (up_to node.parts))
    ∙ ap (λ t. fin.entries (fold (λ rows part. folded.with_windows rows (pairs_in s (part_in t part))) fin.empty (up_to node.parts))) k.number
    ∙ ap (λ c. fin.entries (folded.windows_of p s n (up_to c))) k.parts

-- one partition more
parts_more : (s : State) (topic : ℕ) (rows : Windows) (parts : List ℕ) (part : ℕ) → windows.put_parts s topic rows (parts ++ part ∷ []) ≡ windows.put_pairs (windows.put_parts s topic rows parts) (pairs_in s (part_in topic part))
parts_more s topic rows [] part = refl
parts_more s topic rows (p ∷ ps) part = parts_more s topic (windows.put_pairs rows (pairs_in s (part_in topic p))) ps part

pub one_part_more : (s : State) (topic : ℕ) (rows : Windows) (k : ℕ) → windows.put_parts s topic rows (up_to (k + 1)) ≡ windows.put_pairs (windows.put_parts s topic rows (up_to k)) (pairs_in s (part_in topic k))
one_part_more s topic rows k = ap (λ j. windows.put_parts s topic rows (up_to j)) (add-one k) ∙ parts_more s topic rows (up_to k) k

-- ---- a table
shown_are : (d : DraftView) (s : State) (name : Name) (node : Node) (topic : ℕ) → IsKept d name node topic →
    windows.shown_rows (op_view node.op) s topic node.parts ≡ folded.folded_rows (plan_of d) s (node_number (known_nodes d) name)
shown_are d s name node topic k =
    let n = node_number (known_nodes d) name in
    ap₂ (λ (a : Windows) (b : Rows). cond (counts_windows (op_view node.op)) (map window_row a) (map plain_row b)) (windows_are d s name node topic k) (rows_are d s name node topic k)
    ∙ ap (λ w. cond w (map window_row (fin.entries (folded.node_windows (plan_of d) s n))) (map plain_row (fin.entries (folded.node_rows (plan_of d) s n)))) (sym k.windowed)

pub table_is : (d : DraftView) (s : State) (name : Name) (node : Node) (topic : ℕ) (own : Name) (lines : List TableRow) → IsKept d name node topic → own ≡ node.name →
    lines ≡ windows.shown_rows (op_view node.op) s topic node.parts → ◌≡◌ {A = Table} record { name = own; rows = lines } (folded.folded_table d s name)
table_is d s name node topic own lines k a b =
    ap (λ (n : Name). table n lines) (a ∙ k.named) ∙ ap (λ ls. table name ls) (b ∙ shown_are d s name node topic k)
  where
    table : Name → List TableRow → Table
    table n ls = record { name = n; rows = ls }

pub is_part : (d : DraftView) (setup : Setup) (name : Name) (node : Node) (topic : ℕ) → IsKept d name node topic → setup.counts ≡ map (parts_of_topic (plan_of d)) (topics_of (plan_of d)) →
    (part : ℕ) → part + 1 ≤ node.parts → IsPart setup (part_in topic part)
is_part d setup name node topic k counts part h = record {
  topic = omega (arith, k.within, ap length counts, length-map (topics_of (plan_of d)) (parts_of_topic (plan_of d)));
  part = omega (arith, h, k.count, ap (λ l. slice_index l topic) counts);
}

-- ---- the printed names one after another
split_at : {A : Type 0} (xs : List A) (i : ℕ) (x : A) → i < length xs → x ≡ get_or xs i x → xs ≡ take i xs ++ x ∷ drop (i + 1) xs
split_at [] i x h e = absurd (omega (arith, h))
split_at (y ∷ xs) zero x h e = ap (λ z. z ∷ xs) (sym e)
split_at (y ∷ xs) (suc i) x h e = rw add-one (ap (λ l. y ∷ l) (split_at xs i x (omega (arith, h)) e ∙ ap (λ k. take i xs ++ x ∷ drop k xs) (add-one i)))

pub take_one : {A : Type 0} (xs : List A) (i : ℕ) (x : A) → i < length xs → x ≡ get_or xs i x → take (i + 1) xs ≡ take i xs ++ x ∷ []
take_one [] i x h e = absurd (omega (arith, h))
take_one (y ∷ xs) zero x h e = ap (λ z. z ∷ []) (sym e)
take_one (y ∷ xs) (suc i) x h e = rw add-one (ap (λ l. y ∷ l) (ap (λ k. take k xs) (sym (add-one i)) ∙ take_one xs i x (omega (arith, h)) e))

pub printed_at : (d : DraftView) (names : List Name) (i : ℕ) (x name : Name) → names ≡ d.print → i < length names → x ≡ get_or names i x → name ≡ x → IsPrinted d name
printed_at d names i x name e h at same = record {
  before = take i names;
  after = drop (i + 1) names;
  is = sym e ∙ split_at names i x h at ∙ ap (λ y. take i names ++ y ∷ drop (i + 1) names) (sym same);
}

pub one_table_more : (d : DraftView) (s : State) (names : List Name) (i : ℕ) (x name : Name) (old new : List Table) (t : Table) → i < length names → x ≡ get_or names i x → name ≡ x →
    old ≡ map (folded.folded_table d s) (take i names) → t ≡ folded.folded_table d s name → new ≡ old ++ t ∷ [] → new ≡ map (folded.folded_table d s) (take (i + 1) names)
one_table_more d s names i x name old new t h at same was is pushed =
    pushed ∙ ap (λ l. l ++ t ∷ []) was ∙ ap (λ z. map (folded.folded_table d s) (take i names) ++ z ∷ []) (is ∙ ap (folded.folded_table d s) same)
    ∙ sym (map-append (folded.folded_table d s) (take i names) (x ∷ [])) ∙ ap (map (folded.folded_table d s)) (sym (take_one names i x h at))
