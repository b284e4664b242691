-- What a windowed count makes of one item over a store of bytes: the greatest timestamp, and the count of each window.
-- Kafka Streams developer guide, "Windowing", on grace periods.
use Rattle.std.specs.Prelude.{ℕ, ◌+◌, List, [], ◌∷◌, ◌++◌, Option, Some, None, cond, fold, nat_eq}
use Rattle.ks_record.specs.Records.{Record as Rec}
use Rattle.ks_row.specs.Reading.{◌>>=◌}
use Rattle.ks_def_runs.specs.Bytes.{Store}
use Rattle.ks_def_runs.specs.FinMap as fin
use Rattle.ks_wire.specs.declared.values.Agg.{Agg}
use Rattle.ks_wire.specs.Spelling.{agg_bytes, window_key, time_key, time_bytes}
use Rattle.ks_wire.specs.Reading.{agg_from, time_from}
use Rattle.ks_plan.specs.Plan.{Window}
use Rattle.ks_query.specs.Streams.{Key}
use Rattle.ks_query.specs.Windows.{windows}
use Rattle.ks_query.specs.Grace.{is_open}
use Rattle.ks_query.specs.Aggregates.{stream_add}
use Rattle.ks_def_tasks.specs.Messages.{same_option}
use Rattle.ks_def_tasks.specs.Windowed.{greater}

-- the greatest timestamp that the store keeps
abbrev pub time_in : Store → Option ℕ
time_in m = fin.get m time_key >>= time_from

-- the count of a key's window; what is spelled otherwise counts as absent
abbrev pub count_in : Store → Key → ℕ → Option Agg
count_in m key start = fin.get m (window_key key start) >>= agg_from

-- the count at a place of the store, one higher
abbrev pub next_bytes : Store → List ℕ → List ℕ
next_bytes m place = agg_bytes (stream_add None (fin.get m place >>= agg_from) [])

pub record CountedBytes : Type 0 where
  pub store : Store
  -- pairs of this item and a window that were dropped
  pub late : ℕ
  -- changelog records
  pub recs : List Rec

abbrev pub kept_rec : ℕ → List ℕ → List ℕ → Rec
kept_rec t key value = record { key = Some key; value = Some value; ts = t }

-- the changelog record of a window's next count, and the store with it
abbrev pub next_rec : ℕ → Store → List ℕ → Rec
next_rec t m place = kept_rec t place (next_bytes m place)

abbrev pub with_next : Store → List ℕ → Store
with_next m place = fin.insert m place (next_bytes m place)

-- the changelog record of the greatest timestamp, where it changes
abbrev pub time_rec : Option ℕ → ℕ → ℕ → List Rec
time_rec before t now = cond (same_option nat_eq before (Some now)) [] (kept_rec t time_key (time_bytes now) ∷ [])

-- the key and the value are set, and the changelog is told
abbrev pub keep : CountedBytes → ℕ → List ℕ → List ℕ → CountedBytes
keep c t key value = record c { store = fin.insert c.store key value; recs = c.recs ++ kept_rec t key value ∷ [] }

-- one window of an item: counted while it is open, late after
abbrev pub count_start : Window → ℕ → ℕ → Key → CountedBytes → ℕ → CountedBytes
count_start w t now key c s =
    cond (is_open w now s) (keep c t (window_key key s) (agg_bytes (stream_add None (count_in c.store key s) []))) (record c { late = c.late + 1 })

-- the greatest timestamp first, where it changes
abbrev pub keep_time : ℕ → ℕ → CountedBytes → CountedBytes
keep_time t now c = cond (same_option nat_eq (time_in c.store) (Some now)) c (keep c t time_key (time_bytes now))

abbrev pub counted : Window → Store → Key → ℕ → CountedBytes
counted w m key t =
    let now = greater (time_in m) t in
    fold (count_start w t now key) (keep_time t now (record { store = m; late = 0; recs = [] })) (windows w t)
