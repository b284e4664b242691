-- The counts and the greatest time of a windowed count that are read from the bytes after a step are those after the decoded step.
use Rattle.std.proofs.Common.{◌≡◌, ℕ, ◌+◌, ◌<◌, true, false, cond, nat_eq, List, [], ◌∷◌, ◌++◌, map, fold, Option, Some, None, refl, sym, ap, ap₂, subst, ◌∙◌, arith}
use Rattle.std.specs.Prelude.{◌^◌, ◌%◌, ℤ, pos}
use Rattle.std.specs.Int.{w64, int_wrapping_add, cast_unsigned}
use Rattle.std.specs.Int.RustNames.{FitsSigned}
use Rattle.std.proofs.Math.Facts.{sfits_to_z}
use Rattle.std.proofs.lemmas.Bool.Decides.{Decides-eqb}
use Rattle.std.specs.declared.cmp.Ordering.{Ordering}
use Rattle.std.specs.declared.cmp.Ordering.TheVariants.{Less, Equal, Greater}
use Rattle.std.specs.Ordering.{nat_cmp, eq_by_cmp, ordering_then}
use Rattle.std.specs.Cmp.{IsTotalOrder, nat_cmp_total, then_total}
use Rattle.std.specs.Cmp.Lexicographic.{nat_list_cmp_total}
use Rattle.std.specs.FinMap.{IsAntisymmetric, slice_cmp-IsAntisymmetric, nat_cmp-IsAntisymmetric}
use Rattle.std.specs.FinMap.Entries.{put, by_order}
use Rattle.ks_record.specs.Texts.{IsKey}
use Rattle.ks_row.specs.Reading.{◌>>=◌}
use Rattle.ks_wire.specs.declared.values.Agg.{Agg}
use Rattle.ks_wire.specs.Spelling.{window_key, agg_bytes, time_key, time_bytes}
use Rattle.ks_wire.specs.Reading.{window_key_from, agg_from, time_from, long_key_at}
use Rattle.ks_wire.proofs.Wired.{window_key_codec, agg_codec, time_codec}
use Rattle.ks_def_runs.specs.FinMap as fin
use Rattle.ks_def_runs.specs.FinMap.{FinMap}
use Rattle.ks_def_runs.specs.Bytes.{by_bytes, Store as ByteStore}
use Rattle.ks_def_runs.proofs.Tables.{get-write, get-write_here, equal}
use Rattle.ks_plan.specs.Plan.{Window}
use Rattle.ks_query.specs.Streams.{Key}
use Rattle.ks_query.specs.Windows.{WindowKey, by_window}
use Rattle.ks_query.specs.Grace.{is_open}
use Rattle.ks_query.specs.Aggregates.{stream_add, or_nothing}
use Rattle.ks_def_tasks.specs.Messages.{Message, same_option}
use Rattle.ks_def_tasks.specs.Messages.Message.{KeptCount, KeptTime}
use Rattle.ks_def_tasks.specs.Windowed.{Counted, count_window, time_changes}
use Rattle.ks_def_tasks.specs.Bytes.{rec_of, keep_all, keep_bytes, map_from}
use Rattle.ks_def_tasks.specs.Laws.{AreBytes, AllBelow}
use Rattle.ks_def_tasks.proofs.Same.{option-is}
use Rattle.ks_def_tasks.proofs.Shown.{Alone, shown_write, shown_same}

-- ---- the order of window keys
on_total : {K A : Type 0} (f : K → A) {R : A → A → Ordering} → IsTotalOrder R → IsTotalOrder (λ x y. R (f x) (f y))
on_total f o = record { antisymm = λ x y. o.antisymm (f x) (f y); trans = λ x y z. o.trans (f x) (f y) (f z); congr = λ x y z. o.congr (f x) (f y) (f z) }

pub window_total : IsTotalOrder by_window
window_total = then_total (on_total (λ (w : WindowKey). w.0) nat_list_cmp_total) (on_total (λ (w : WindowKey). w.1) nat_cmp_total)

both_equal : (r s : Ordering) → ordering_then r s ≡ Equal → (r ≡ Equal) × (s ≡ Equal)
both_equal Less s e = absurd (cc)
both_equal Equal s e = (refl, e)
both_equal Greater s e = absurd (cc)

pub window_same : IsAntisymmetric by_window
window_same a b e =
    let both = both_equal (by_bytes a.0 b.0) (nat_cmp a.1 b.1) e in
    ap₂ (λ (k : Key) (s : ℕ). (k, s)) (slice_cmp-IsAntisymmetric nat_cmp-IsAntisymmetric a.0 b.0 both.0) (nat_cmp-IsAntisymmetric a.1 b.1 both.1)

-- ---- counts and time, as they are read
abbrev pub counts_in : ByteStore → FinMap by_window Agg
counts_in m = map_from by_window window_key_from agg_from (fin.entries m)

abbrev pub time_in : ByteStore → Option ℕ
time_in m = fin.get m time_key >>= time_from

no_window : window_key_from time_key ≡ None
unfolding window_key_from long_key_at
no_window = refl

abbrev pub AloneAt : Key → ℕ → List (List ℕ × List ℕ) → Type 0
AloneAt g s es = Alone by_window window_total window_same window_key_from agg_from (g, s) (window_key g s) es

alone_from : (g : Key) (s : ℕ) (es : List (List ℕ × List ℕ)) → AreBytes es → AloneAt g s es
alone_from g s [] h = tt
alone_from g s (e ∷ es) h = (
  λ c read tied.
      let same : (g, s) ≡ c = window_same (g, s) c (equal (by_window (g, s) c) tied) in
      (window_key_codec.back e.0 c h.0 read).1 ∙ ap (λ (x : WindowKey). window_key x.0 x.1) (sym same),
  alone_from g s es h.1,
)

-- a record whose key is another's, or no window's, leaves it so
alone_put : (g : Key) (s : ℕ) (b v : List ℕ) → ((c : WindowKey) → window_key_from b ≡ Some c → eq_by_cmp by_window (g, s) c ≡ true → b ≡ window_key g s) →
    (es : List (List ℕ × List ℕ)) → AloneAt g s es → AloneAt g s (put by_bytes b v es)
alone_put g s b v only [] h = (only, tt)
alone_put g s b v only (e ∷ es) h = elim (by_bytes b e.0) as (λ r. AloneAt g s (by_order r ((b, v) ∷ e ∷ es) ((e.0, v) ∷ es) (e ∷ put by_bytes b v es))) [
  | Less ↦ (only, h)
  | Equal ↦ (h.0, h.1)
  | Greater ↦ (h.0, alone_put g s b v only es h.1)
]

alone_insert : (g : Key) (s : ℕ) (b v : List ℕ) → ((c : WindowKey) → window_key_from b ≡ Some c → eq_by_cmp by_window (g, s) c ≡ true → b ≡ window_key g s) →
    (m : ByteStore) → AloneAt g s (fin.entries m) → AloneAt g s (fin.entries (fin.insert m b v))
alone_insert g s b v only m h = subst (AloneAt g s) (sym (fin.entries-insert nat_list_cmp_total m b v)) (alone_put g s b v only (fin.entries m) h)

no_other : (g : Key) (s : ℕ) (c : WindowKey) → window_key_from time_key ≡ Some c → eq_by_cmp by_window (g, s) c ≡ true → time_key ≡ window_key g s
no_other g s c e f = absurd (cc_none c (sym no_window ∙ e))
  where
    cc_none : (d : WindowKey) → None ≡ Some d → ⊥
    cc_none d g = cc

-- ---- the counts are of 64 bits
in_bits : (n : ℕ) → n % 2 ^ 64 < 2 ^ 64
in_bits n = omega arith

wrapped : (x y : ℤ) → FitsSigned w64 (int_wrapping_add w64 x y)
wrapped x y = sfits_to_z (record { fits = in_bits (cast_unsigned w64 x + cast_unsigned w64 y) })

agg_again : (old : Option Agg) → agg_from (agg_bytes (stream_add None old [])) ≡ Some (stream_add None old [])
agg_again old = agg_codec.again (stream_add None old []) (record { members = wrapped (or_nothing old).members (pos 1); total = wrapped (or_nothing old).total (pos 0) })

-- ---- one item
module _ (ts : ℕ) (w : Window) (g : Key) (key : IsKey g) (m : ByteStore) where
  abbrev pub kept : List Message → ByteStore
  kept ms = keep_all m (map rec_of (map (λ x. record { message = x; time = ts }) ms))

  keep-push : (b : ByteStore) (ms : List Message) (x : Message) →
      keep_all b (map rec_of (map (λ x. record { message = x; time = ts }) (ms ++ x ∷ []))) ≡ keep_all (keep_all b (map rec_of (map (λ x. record { message = x; time = ts }) ms))) (rec_of (record { message = x; time = ts }) ∷ [])
  keep-push b [] x = refl
  keep-push b (y ∷ ms) x = keep-push (keep_bytes b (rec_of (record { message = y; time = ts })).key (rec_of (record { message = y; time = ts })).value) ms x

  -- what is read of what was written so far
  pub record Reads (c : Counted) : Type 0 where
    pub counts : counts_in (kept c.changes) ≡ c.counts
    pub time : time_in (kept c.changes) ≡ c.time
    pub alone : (s : ℕ) → AloneAt g s (fin.entries (kept c.changes))

  other_window : (s r : ℕ) → s < 2 ^ 64 → (c : WindowKey) → window_key_from (window_key g s) ≡ Some c → eq_by_cmp by_window (g, r) c ≡ true → window_key g s ≡ window_key g r
  other_window s r fits c e f =
      let read = window_key_codec.again (g, s) (key, fits) in
      let same : (g, s) ≡ c = some_is (g, s) c (sym read ∙ e) in
      let tied : (g, r) ≡ c = window_same (g, r) c (equal (by_window (g, r) c) f) in
      ap (λ (x : WindowKey). window_key x.0 x.1) (same ∙ sym tied)
    where
      some_is : (x y : WindowKey) → Some x ≡ Some y → x ≡ y
      some_is x y h = cc

  not_time : (s : ℕ) → s < 2 ^ 64 → eq_by_cmp by_bytes time_key (window_key g s) ≡ false
  not_time s fits = elim (eq_by_cmp by_bytes time_key (window_key g s)) as (λ b. eq_by_cmp by_bytes time_key (window_key g s) ≡ b → b ≡ false) [
    | true ↦ λ e.
        let same : time_key ≡ window_key g s = slice_cmp-IsAntisymmetric nat_cmp-IsAntisymmetric time_key (window_key g s) (equal (by_bytes time_key (window_key g s)) e) in
        let read : window_key_from time_key ≡ Some (g, s) = ap window_key_from same ∙ window_key_codec.again (g, s) (key, fits) in
        absurd (none_some (g, s) (sym no_window ∙ read))
    | false ↦ λ e. refl
  ] refl
    where
      none_some : (d : WindowKey) → None ≡ Some d → ⊥
      none_some d h = cc

  one_window : (now s : ℕ) → s < 2 ^ 64 → (c : Counted) → Reads c → Reads (count_window w now g c s)
  one_window now s fits c h = elim (is_open w now s) as (λ b. Reads (cond b
      (record c { counts = fin.insert c.counts (g, s) (stream_add None (fin.get c.counts (g, s)) []); changes = c.changes ++ KeptCount (g, s) (stream_add None (fin.get c.counts (g, s)) []) ∷ [] })
      (record c { late = c.late + 1 }))) [
        | true ↦
            let new = stream_add None (fin.get c.counts (g, s)) [] in
            let push : kept (c.changes ++ KeptCount (g, s) new ∷ []) ≡ fin.insert (kept c.changes) (window_key g s) (agg_bytes new) = keep-push m c.changes (KeptCount (g, s) new) in
            record {
              counts = ap counts_in push
                  ∙ shown_write by_window window_total window_same window_key_from agg_from agg_bytes (kept c.changes) (g, s) (window_key g s) (Some new) (window_key_codec.again (g, s) (key, fits)) (agg_again (fin.get c.counts (g, s))) (h.alone s)
                  ∙ ap (λ (x : FinMap by_window Agg). fin.insert x (g, s) new) h.counts;
              time = ap time_in push ∙ ap (λ (v : Option (List ℕ)). v >>= time_from) (get-write nat_list_cmp_total (kept c.changes) (window_key g s) (Some (agg_bytes new)) time_key ∙ ap (λ t. cond t (Some (agg_bytes new)) (fin.get (kept c.changes) time_key)) (not_time s fits)) ∙ h.time;
              alone = λ r. subst (λ (x : ByteStore). AloneAt g r (fin.entries x)) (sym push) (alone_insert g r (window_key g s) (agg_bytes new) (other_window s r fits) (kept c.changes) (h.alone r));
            }
        | false ↦ record { counts = h.counts; time = h.time; alone = h.alone }
      ]

  pub all_windows : (now : ℕ) (ss : List ℕ) → AllBelow ss → (c : Counted) → Reads c → Reads (fold (count_window w now g) c ss)
  all_windows now [] f c h = h
  all_windows now (s ∷ ss) f c h = all_windows now ss f.1 (count_window w now g c s) (one_window now s f.0 c h)

  -- the greatest time
  pub first_reads : (bytes : AreBytes (fin.entries m)) (now : ℕ) → now < 2 ^ 64 → (old : Option ℕ) → time_in m ≡ old → Reads (record { time = Some now; counts = counts_in m; late = 0; changes = time_changes old now })
  first_reads bytes now fits old e = elim (same_option nat_eq old (Some now)) as (λ b. same_option nat_eq old (Some now) ≡ b →
      Reads (record { time = Some now; counts = counts_in m; late = 0; changes = cond b [] (KeptTime now ∷ []) })) [
        | true ↦ λ f. record { counts = refl; time = e ∙ option-is nat_eq (λ x y d. (Decides-eqb x y).0 d) old (Some now) f; alone = λ s. alone_from g s (fin.entries m) bytes }
        | false ↦ λ f. record {
          counts = shown_same by_window window_total window_same window_key_from agg_from agg_bytes m time_key (Some (time_bytes now)) no_window;
          time = ap (λ (v : Option (List ℕ)). v >>= time_from) (get-write_here nat_list_cmp_total m time_key (Some (time_bytes now))) ∙ time_codec.again now fits;
          alone = λ s. alone_insert g s time_key (time_bytes now) (no_other g s) m (alone_from g s (fin.entries m) bytes);
        }
      ] refl
