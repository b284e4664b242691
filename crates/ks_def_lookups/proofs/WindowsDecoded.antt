-- Over bytes and decoded, an item makes the same of a windowed count.
use Rattle.std.proofs.Common.{◌≡◌, ℕ, ◌+◌, ◌<◌, true, false, cond, nat_eq, List, [], ◌∷◌, ◌++◌, map, fold, Option, Some, None, refl, sym, ap, ap₂, ◌∙◌}
use Rattle.std.specs.Prelude.{◌^◌}
use Rattle.std.specs.Ordering.{eq_by_cmp, is_eq}
use Rattle.std.specs.Cmp.{tied_itself}
use Rattle.ks_record.specs.Texts.{IsKey}
use Rattle.ks_row.specs.Reading.{◌>>=◌}
use Rattle.ks_record.specs.Records.{Record as Rec}
use Rattle.ks_wire.specs.declared.values.Agg.{Agg}
use Rattle.ks_wire.specs.Spelling.{window_key, agg_bytes, time_key, time_bytes}
use Rattle.ks_wire.specs.Reading.{window_key_from, agg_from}
use Rattle.ks_wire.proofs.Wired.{window_key_codec}
use Rattle.ks_def_runs.specs.FinMap as fin
use Rattle.ks_def_runs.specs.Bytes.{Store}
use Rattle.ks_plan.specs.Plan.{Window}
use Rattle.ks_query.specs.Streams.{Key}
use Rattle.ks_query.specs.Windows.{by_window, windows}
use Rattle.ks_query.specs.Grace.{is_open}
use Rattle.ks_query.specs.Aggregates.{stream_add}
use Rattle.ks_def_tasks.specs.Messages.{Message, same_option}
use Rattle.ks_def_tasks.specs.Messages.Message.{KeptCount, KeptTime}
use Rattle.ks_def_tasks.specs.Windowed.{Counted, count_window, time_changes, greater}
use Rattle.ks_def_tasks.specs.Bytes.{rec_of, keep_all, keep_bytes}
use Rattle.ks_def_tasks.specs.Laws.{AllBelow}
use Rattle.ks_def_tasks.proofs.Shown.{get-read, over_here}
use Rattle.ks_def_tasks.proofs.Counts.{window_total, window_same, AloneAt, Reads, all_windows, first_reads}
use Rattle.ks_def_lookups.specs.Windows.{CountedBytes, time_in, count_in, kept_rec, keep, count_start, keep_time}
use Rattle.ks_def_lookups.specs.WindowsDecoded.{counts_in, CountsAgree}

abbrev told : ℕ → List Message → List Rec
told t ms = map rec_of (map (λ x. record { message = x; time = t }) ms)

told-push : (t : ℕ) (ms : List Message) (x : Message) → told t (ms ++ x ∷ []) ≡ told t ms ++ rec_of (record { message = x; time = t }) ∷ []
told-push t [] x = refl
told-push t (m ∷ ms) x = ap (λ l. rec_of (record { message = m; time = t }) ∷ l) (told-push t ms x)

keep_all-push : (b : Store) (rs : List Rec) (r : Rec) → keep_all b (rs ++ r ∷ []) ≡ keep_bytes (keep_all b rs) r.key r.value
keep_all-push b [] r = refl
keep_all-push b (x ∷ rs) r = keep_all-push (keep_bytes b x.key x.value) rs r

-- the count of a window as the store keeps it
by_value : (g : Key) (s : ℕ) → IsKey g → s < 2 ^ 64 → (b : Store) → AloneAt g s (fin.entries b) → (v : List ℕ) → fin.get b (window_key g s) ≡ Some v → (u : Option Agg) → agg_from v ≡ u → fin.get (counts_in b) (g, s) ≡ u
by_value g s key fits b alone v e None f =
    let named = window_key_codec.again (g, s) (key, fits) in
    rw (e, named, f) at (get-read by_window window_total window_same window_key_from agg_from (fin.entries b) (g, s) ∙ over_here by_window window_total window_same window_key_from agg_from (g, s) (window_key g s) b alone)
by_value g s key fits b alone v e (Some x) f =
    let named = window_key_codec.again (g, s) (key, fits) in
    let itself : eq_by_cmp by_window (g, s) (g, s) ≡ true = ap is_eq (tied_itself window_total (g, s)) in
    rw (e, named, f, itself) at (get-read by_window window_total window_same window_key_from agg_from (fin.entries b) (g, s) ∙ over_here by_window window_total window_same window_key_from agg_from (g, s) (window_key g s) b alone)

by_found : (g : Key) (s : ℕ) → IsKey g → s < 2 ^ 64 → (b : Store) → AloneAt g s (fin.entries b) → (v : Option (List ℕ)) → fin.get b (window_key g s) ≡ v → fin.get (counts_in b) (g, s) ≡ (v >>= agg_from)
by_found g s key fits b alone None e =
    rw e at (get-read by_window window_total window_same window_key_from agg_from (fin.entries b) (g, s) ∙ over_here by_window window_total window_same window_key_from agg_from (g, s) (window_key g s) b alone)
by_found g s key fits b alone (Some v) e = by_value g s key fits b alone v e (agg_from v) refl

read_count : (g : Key) (s : ℕ) → IsKey g → s < 2 ^ 64 → (b : Store) → AloneAt g s (fin.entries b) → fin.get (counts_in b) (g, s) ≡ count_in b g s
read_count g s key fits b alone = by_found g s key fits b alone (fin.get b (window_key g s)) refl

module _ (t : ℕ) (w : Window) (g : Key) (key : IsKey g) (m : Store) where
  record Same (c : CountedBytes) (d : Counted) : Type 0 where
    store : c.store ≡ keep_all m (told t d.changes)
    late : c.late ≡ d.late
    recs : c.recs ≡ told t d.changes

  one_start : (now s : ℕ) → s < 2 ^ 64 → (c : CountedBytes) (d : Counted) → Reads t w g key m d → Same c d → Same (count_start w t now g c s) (count_window w now g d s)
  one_start now s fits c d reads h = elim (is_open w now s) as (λ b. Same
      (cond b (keep c t (window_key g s) (agg_bytes (stream_add None (count_in c.store g s) []))) (record c { late = c.late + 1 }))
      (cond b (record d { counts = fin.insert d.counts (g, s) (stream_add None (fin.get d.counts (g, s)) []); changes = d.changes ++ KeptCount (g, s) (stream_add None (fin.get d.counts (g, s)) []) ∷ [] }) (record d { late = d.late + 1 }))) [
        | true ↦
            let old : count_in c.store g s ≡ fin.get d.counts (g, s) =
            ap (λ b. count_in b g s) h.store ∙ sym (read_count g s key fits (keep_all m (told t d.changes)) (reads.alone s)) ∙ ap (λ x. fin.get x (g, s)) reads.counts in
            let new : Agg = stream_add None (fin.get d.counts (g, s)) [] in
            let same : stream_add None (count_in c.store g s) [] ≡ new = ap (λ o. stream_add None o []) old in
            let push = told-push t d.changes (KeptCount (g, s) new) in
            record {
              store = ap₂ (λ (b : Store) (a : Agg). fin.insert b (window_key g s) (agg_bytes a)) h.store same ∙ sym (ap (keep_all m) push ∙ keep_all-push m (told t d.changes) (rec_of (record { message = KeptCount (g, s) new; time = t })));
              late = h.late;
              recs = ap₂ (λ (rs : List Rec) (a : Agg). rs ++ kept_rec t (window_key g s) (agg_bytes a) ∷ []) h.recs same ∙ sym push;
            }
        | false ↦ record { store = h.store; late = ap (λ n. n + 1) h.late; recs = h.recs }
      ]

  all_starts : (now : ℕ) (ss : List ℕ) → AllBelow ss → (c : CountedBytes) (d : Counted) → Reads t w g key m d → Same c d → Same (fold (count_start w t now g) c ss) (fold (count_window w now g) d ss)
  all_starts now [] fits c d reads h = h
  all_starts now (s ∷ ss) fits c d reads h =
      all_starts now ss fits.1 (count_start w t now g c s) (count_window w now g d s) (all_windows t w g key m now (s ∷ []) (fits.0, tt) d reads) (one_start now s fits.0 c d reads h)

  first_same : (now : ℕ) → Same (keep_time t now (record { store = m; late = 0; recs = [] })) (record { time = Some now; counts = counts_in m; late = 0; changes = time_changes (time_in m) now })
  first_same now = elim (same_option nat_eq (time_in m) (Some now)) as (λ b. Same
      (cond b (record { store = m; late = 0; recs = [] }) (keep (record { store = m; late = 0; recs = [] }) t time_key (time_bytes now)))
      (record { time = Some now; counts = counts_in m; late = 0; changes = cond b [] (KeptTime now ∷ []) })) [
        | true ↦ record { store = refl; late = refl; recs = refl }
        | false ↦ record { store = refl; late = refl; recs = refl }
      ]

pub counts_agree : CountsAgree
counts_agree w m g t bytes key fits starts =
    let now = greater (time_in m) t in
    let first = first_reads t w g key m bytes now fits (time_in m) refl in
    let done = all_windows t w g key m now (windows w t) starts _ first in
    let same = all_starts t w g key m now (windows w t) starts _ _ first (first_same t w g key m now) in
    record {
      late = same.late;
      recs = same.recs;
      counts = ap counts_in same.store ∙ done.counts;
      time = ap time_in same.store ∙ done.time;
      store = same.store ∙ ap (keep_all m) (sym same.recs);
    }
