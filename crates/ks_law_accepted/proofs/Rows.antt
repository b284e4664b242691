-- The rows of a settled run's folded tables have lines.
use Rattle.std.proofs.Common.{◌≡◌, ℕ, ◌<◌, ◌^◌, length, Bool, true, false, ◌&&◌, cond, List, [], ◌∷◌, map, Option, Some, None, fold, refl, sym, ap, subst, ◌∙◌, ⊎_elim}
use Rattle.std.specs.Prelude.{option_map}
use Rattle.std.specs.Cmp.{IsTotalOrder}
use Rattle.std.specs.Cmp.Lexicographic.{nat_list_cmp_total}
use Rattle.std.specs.declared.cmp.Ordering.{Ordering}
use Rattle.std.specs.FinMap.{IsAntisymmetric}
use Rattle.std.proofs.lemmas.Bool.{and_parts, or_cases}
use Rattle.ks_record.specs.Texts.{IsKey, key_from}
use Rattle.ks_row.specs.Reading.{row_from as plain_from}
use Rattle.ks_row.specs.Spelling.{FitsRow}
use Rattle.ks_record.specs.declared.record.PartId.{PartId}
use Rattle.ks_row.proofs.Spelled.{key_takes, row_codec}
use Rattle.ks_wire.specs.Reading.{agg_from, time_from, window_key_from, long_key_at}
use Rattle.ks_wire.specs.Spelling.{time_key}
use Rattle.ks_wire.proofs.Wired.{agg_codec, window_key_codec}
use Rattle.ks_expr.specs.Eval.{Row, same_bytes}
use Rattle.ks_plan.specs.Drafts.{DraftView}
use Rattle.ks_plan.specs.Plan.{Plan, Kind, plan_of, is_stream, is_windowed}
use Rattle.ks_plan.specs.Plan.Kind.{StreamSource, TableSource, StreamFilter, TableFilter, StreamMap, TableMap, KeySelected, StreamAggregate, TableAggregate, Windowed, KeyJoin, ForeignKeyJoin}
use Rattle.ks_plan.specs.declared.node.Topic.TheVariants.{Changelog}
use Rattle.ks_plan.specs.Layout.{up_to, parts_of, kind_at, number_of, sub_of, topic_at}
use Rattle.ks_def_runs.specs.FinMap as fin
use Rattle.ks_def_runs.specs.FinMap.{FinMap}
use Rattle.ks_def_runs.specs.Bytes.{by_bytes, empty_store}
use Rattle.ks_query.specs.Streams.{Key, Input}
use Rattle.ks_query.specs.Windows.{WindowKey, by_window}
use Rattle.ks_query.specs.Aggregates.{agg_row}
use Rattle.ks_query.specs.Printed.{plain_row, window_row}
use Rattle.ks_def_tasks.specs.Messages.{Rules, Stored, shown}
use Rattle.ks_def_tasks.specs.Messages.Stored.{OfRow, OfAgg}
use Rattle.ks_def_tasks.specs.Bytes.{with_pair, stored_from}
use Rattle.ks_def_tasks.proofs.Counts.{window_total, window_same}
use Rattle.ks_history.specs.declared.journal.Entry.{Entry}
use Rattle.ks_history.specs.State.{State}
use Rattle.ks_history.specs.Faithful as history
use Rattle.ks_history.specs.Replay.{produced}
use Rattle.ks_law_exactly_once.specs.Keeping.{FitIn}
use Rattle.ks_def_runs.proofs.Tables.{equal}
use Rattle.ks_law_topology.proofs.Every.{Every, Gives, every_insert, every_empty}
use Rattle.ks_law_topology.proofs.Few.{have_few}
use Rattle.ks_law_kinds.specs.OfKind.{spells, is_stored, is_counted, is_kept, is_given}
use Rattle.ks_law_kinds.specs.Fitting.{TellsKinds, are_pairs_of, is_pair_of}
use Rattle.ks_law_kinds.proofs.Stores.{a_row, an_agg, bytes_anti, bytes_in, mapped}
use Rattle.ks_law_kinds.proofs.Kept.{decided_are_of_kind}
use Rattle.ks_law_settled.specs.Folded.{row_from, with_rows, with_windows, log_part, fold_pairs, node_rows, node_windows, folded_rows}
use Rattle.ks_law_settled.specs.Settled.{IsRunOf, end_of}
use Rattle.ks_law_settled.proofs.Agreement.{table_owned}
use Rattle.ks_law_settled.proofs.WholeNodes.{IsOwned}
use Rattle.ks_law_settled.proofs.Tables.{whole}
use Rattle.ks_audit_verdict.proofs.Left.{RowsFit}

-- ---- the entries of a map that pairs were read into
module _ {K X : Type 0} (P : K → X → Type 0) (R : K → K → Ordering) (o : IsTotalOrder R) (anti : IsAntisymmetric R) (key : List ℕ → Option K) (value : List ℕ → Option X) where
  with_one : (m : FinMap R X) (k : Option K) (x : Option X) → ((c : K) (y : X) → k ≡ Some c → x ≡ Some y → P c y) → Every P (fin.entries m) → Every P (fin.entries (with_pair R m k x))
  with_one m (Some k) (Some x) p h = every_insert P R o anti m k x (p k x refl refl) h
  with_one m (Some k) None p h = h
  with_one m None x p h = h

  with_all : (es : List (List ℕ × List ℕ)) → Gives P R o anti key value es → (m : FinMap R X) → Every P (fin.entries m) → Every P (fin.entries (fold (λ m e. with_pair R m (key e.0) (value e.1)) m es))
  with_all [] g m h = h
  with_all (e ∷ es) g m h = with_all es g.1 (with_pair R m (key e.0) (value e.1)) (with_one m (key e.0) (value e.1) g.0 h)

-- ---- the row of a stored value
read_row : (bytes : List ℕ) (w : Stored) → spells plain_from bytes ≡ true → option_map OfRow (plain_from bytes) ≡ Some w → FitsRow (shown w)
read_row bytes w h e =
    let x = mapped OfRow (plain_from bytes) w e in
    subst (λ v. FitsRow (shown v)) x.2 (a_row x.0 (row_codec.back bytes x.0 (bytes_in plain_from bytes h) x.1).0).1

read_agg : (c : Bool) (bytes : List ℕ) (w : Stored) → spells agg_from bytes ≡ true → option_map (OfAgg c) (agg_from bytes) ≡ Some w → FitsRow (shown w)
read_agg c bytes w h e =
    let x = mapped (OfAgg c) (agg_from bytes) w e in
    subst (λ v. FitsRow (shown v)) x.2 (an_agg c x.0 (agg_codec.back bytes x.0 (bytes_in agg_from bytes h) x.1).0).1

stored_fits : (k : Kind) (bytes : List ℕ) (w : Stored) → is_stored k bytes ≡ true → stored_from k bytes ≡ Some w → FitsRow (shown w)
stored_fits (StreamSource t) bytes w h e = read_row bytes w h e
stored_fits (TableSource t) bytes w h e = read_row bytes w h e
stored_fits (StreamFilter f x) bytes w h e = read_row bytes w h e
stored_fits (TableFilter f x) bytes w h e = read_row bytes w h e
stored_fits (StreamMap f s) bytes w h e = read_row bytes w h e
stored_fits (TableMap f s) bytes w h e = read_row bytes w h e
stored_fits (KeySelected f k) bytes w h e = read_row bytes w h e
stored_fits (StreamAggregate f by field through) bytes w h e = read_agg _ bytes w h e
stored_fits (TableAggregate f by field) bytes w h e = read_agg _ bytes w h e
stored_fits (Windowed f by x through) bytes w h e = read_row bytes w h e
stored_fits (KeyJoin l r kind s) bytes w h e = read_row bytes w h e
stored_fits (ForeignKeyJoin l r fk kind s) bytes w h e = read_row bytes w h e

-- ---- a pair, by its kind
abbrev IsRow : Key → Row → Type 0
IsRow k row = IsKey k × FitsRow row

abbrev IsWindow : WindowKey → Row → Type 0
IsWindow k row = IsKey k.0 × (k.1 < 2 ^ 64) × FitsRow row

plain_pair : (kind : Kind) (key value : List ℕ) → is_windowed kind ≡ false → is_kept kind (Some key) (Some value) ≡ true → (k : Key) (row : Row) → key_from key ≡ Some k → row_from kind value ≡ Some row → IsRow k row
plain_pair kind key value plain h k row f g =
    let both = and_parts (spells key_from key) (is_stored kind value) (sym (ap (λ b. cond b (is_counted (Some key) (Some value)) (spells key_from key && is_stored kind value)) plain) ∙ h) in
    let t = key_takes key k f in
    let x = mapped shown (stored_from kind value) row g in
    (subst IsKey t.0 t.1, subst FitsRow x.2 (stored_fits kind value x.0 both.1 x.1))

no_window : window_key_from time_key ≡ None
unfolding window_key_from long_key_at
no_window = refl

counted_pair : (kind : Kind) (key value : List ℕ) → is_windowed kind ≡ true → is_kept kind (Some key) (Some value) ≡ true → (k : WindowKey) (row : Row) → window_key_from key ≡ Some k → option_map (agg_row true) (agg_from value) ≡ Some row → IsWindow k row
counted_pair kind key value windowed h k row f g =
    let counted : is_counted (Some key) (Some value) ≡ true = sym (ap (λ b. cond b (is_counted (Some key) (Some value)) (spells key_from key && is_stored kind value)) windowed) ∙ h in
    ⊎_elim
    (λ (c : (spells window_key_from key && spells agg_from value) ≡ true).
    let both = and_parts (spells window_key_from key) (spells agg_from value) c in
    let t = (window_key_codec.back key k (bytes_in window_key_from key both.0) f).0 in
    let x = mapped (agg_row true) (agg_from value) row g in
    (t.0, t.1, subst FitsRow x.2 (an_agg true x.0 (agg_codec.back value x.0 (bytes_in agg_from value both.1) x.1).0).1))
    (λ (c : (same_bytes time_key key && spells time_from value) ≡ true).
    let same : time_key ≡ key = bytes_anti time_key key (equal (by_bytes time_key key) (and_parts (same_bytes time_key key) (spells time_from value) c).0) in
    absurd (let e = sym no_window ∙ (ap window_key_from same ∙ f) in cc))
    (or_cases (spells window_key_from key && spells agg_from value) (same_bytes time_key key && spells time_from value) counted)

-- ---- the rows of a node
module _ (rules : Rules) (d : DraftView) (records : List Input) (journal : List Entry) (run : IsRunOf rules d records journal) (given : (q : PartId) → FitIn is_given q (produced journal q)) where
  abbrev p : Plan
  p = plan_of d

  abbrev s : State
  s = end_of rules d journal

  tells : TellsKinds rules p journal
  tells = decided_are_of_kind rules p journal run.job.hashes run.job.spelled (have_few d run.job.well) run.done.history given

  module _ (n : ℕ) (lt : n < length p.kinds) (table : is_stream (kind_at p n) ≡ false) where
    log : IsOwned p (whole rules d records journal run) (Changelog n)
    log = table_owned rules p (whole rules d records journal run) run.job.parts run.job.have run.job.hashes n lt table

    abbrev kind : Kind
    kind = kind_at p n

    held : (part : ℕ) → are_pairs_of p (Some (Changelog n)) (fold_pairs p s n part) ≡ true
    held part =
        sym (ap (λ o. are_pairs_of p o (fold_pairs p s n part)) log.there)
        ∙ (sym (ap (λ b. are_pairs_of p (topic_at p (number_of p (Changelog n))) (fin.entries (cond b (history.fold s (log_part p n part)) empty_store))) log.own)
        ∙ tells.stores (record { sub = sub_of p n; part = part }) (number_of p (Changelog n)))

    plain_give : is_windowed kind ≡ false → (es : List (List ℕ × List ℕ)) → are_pairs_of p (Some (Changelog n)) es ≡ true → Gives IsRow by_bytes nat_list_cmp_total bytes_anti key_from (row_from kind) es
    plain_give plain [] h = tt
    plain_give plain (e ∷ es) h =
        let both = and_parts (is_pair_of p (Some (Changelog n)) e) (are_pairs_of p (Some (Changelog n)) es) h in
        (plain_pair kind e.0 e.1 plain both.0, plain_give plain es both.1)

    counted_give : is_windowed kind ≡ true → (es : List (List ℕ × List ℕ)) → are_pairs_of p (Some (Changelog n)) es ≡ true → Gives IsWindow by_window window_total window_same window_key_from (λ b. option_map (agg_row true) (agg_from b)) es
    counted_give windowed [] h = tt
    counted_give windowed (e ∷ es) h =
        let both = and_parts (is_pair_of p (Some (Changelog n)) e) (are_pairs_of p (Some (Changelog n)) es) h in
        (counted_pair kind e.0 e.1 windowed both.0, counted_give windowed es both.1)

    plain_parts : is_windowed kind ≡ false → (parts : List ℕ) (m : FinMap by_bytes Row) → Every IsRow (fin.entries m) → Every IsRow (fin.entries (fold (λ rows part. with_rows kind rows (fold_pairs p s n part)) m parts))
    plain_parts plain [] m h = h
    plain_parts plain (part ∷ parts) m h =
        plain_parts plain parts (with_rows kind m (fold_pairs p s n part)) (with_all IsRow by_bytes nat_list_cmp_total bytes_anti key_from (row_from kind) (fold_pairs p s n part) (plain_give plain (fold_pairs p s n part) (held part)) m h)

    counted_parts : is_windowed kind ≡ true → (parts : List ℕ) (m : FinMap by_window Row) → Every IsWindow (fin.entries m) → Every IsWindow (fin.entries (fold (λ rows part. with_windows rows (fold_pairs p s n part)) m parts))
    counted_parts windowed [] m h = h
    counted_parts windowed (part ∷ parts) m h =
        counted_parts windowed parts (with_windows m (fold_pairs p s n part)) (with_all IsWindow by_window window_total window_same window_key_from (λ b. option_map (agg_row true) (agg_from b)) (fold_pairs p s n part) (counted_give windowed (fold_pairs p s n part) (held part)) m h)

    plain_lines : (es : List (Key × Row)) → Every IsRow es → RowsFit false (map plain_row es)
    plain_lines [] h = tt
    plain_lines (e ∷ es) h = (record { key = h.0.0; start = tt; row = h.0.1 }, plain_lines es h.1)

    counted_lines : (es : List (WindowKey × Row)) → Every IsWindow es → RowsFit true (map window_row es)
    counted_lines [] h = tt
    counted_lines (e ∷ es) h = (record { key = h.0.0; start = h.0.1; row = h.0.2 }, counted_lines es h.1)

    pub rows_fit : RowsFit (is_windowed kind) (folded_rows p s n)
    rows_fit = by (is_windowed kind) refl
      where
        by : (b : Bool) → is_windowed kind ≡ b → RowsFit b (cond b (map window_row (fin.entries (node_windows p s n))) (map plain_row (fin.entries (node_rows p s n))))
        by true e = counted_lines (fin.entries (node_windows p s n)) (counted_parts e (up_to (parts_of p n)) fin.empty (every_empty IsWindow by_window window_total window_same))
        by false e = plain_lines (fin.entries (node_rows p s n)) (plain_parts e (up_to (parts_of p n)) fin.empty (every_empty IsRow by_bytes nat_list_cmp_total bytes_anti))
