-- What an item makes of a store of bytes is what the task machine's windowed count makes of what the bytes say.
use Rattle.std.specs.Prelude.{◌≡◌, ◌^◌, ◌<◌, ℕ, map, Some}
use Rattle.ks_record.specs.Texts.{IsKey}
use Rattle.ks_def_runs.specs.Bytes.{Store}
use Rattle.ks_def_runs.specs.FinMap as fin
use Rattle.ks_def_runs.specs.FinMap.{FinMap}
use Rattle.ks_wire.specs.declared.values.Agg.{Agg}
use Rattle.ks_wire.specs.Reading.{window_key_from, agg_from}
use Rattle.ks_plan.specs.Plan.{Window}
use Rattle.ks_query.specs.Streams.{Key}
use Rattle.ks_query.specs.Windows.{by_window, windows}
use Rattle.ks_def_tasks.specs.Windowed.{Counted, greater, count_group}
use Rattle.ks_def_tasks.specs.Bytes.{map_from, rec_of, keep_all}
use Rattle.ks_def_tasks.specs.Laws.{AreBytes, AllBelow}
use Rattle.ks_def_lookups.specs.Windows.{time_in, counted}

-- the counts that a store keeps
abbrev pub counts_in : Store → FinMap by_window Agg
counts_in m = map_from by_window window_key_from agg_from (fin.entries m)

-- the machine's windowed count of one item with a key
abbrev pub decoded : Window → Store → Key → ℕ → Counted
decoded w m key t = count_group w (time_in m) (counts_in m) t (Some key)

pub record Agrees (w : Window) (m : Store) (key : Key) (t : ℕ) : Type 0 where
  pub late : (counted w m key t).late ≡ (decoded w m key t).late
  pub recs : (counted w m key t).recs ≡ map rec_of (map (λ x. record { message = x; time = t }) (decoded w m key t).changes)
  pub counts : counts_in (counted w m key t).store ≡ (decoded w m key t).counts
  pub time : time_in (counted w m key t).store ≡ (decoded w m key t).time
  -- the store is what the records leave in it
  pub store : (counted w m key t).store ≡ keep_all m (counted w m key t).recs

-- where the store's keys are bytes, the key is one and times have 64 bits
abbrev pub CountsAgree : Type 0
CountsAgree = (w : Window) (m : Store) (key : Key) (t : ℕ) → AreBytes (fin.entries m) → IsKey key → greater (time_in m) t < 2 ^ 64 → AllBelow (windows w t) → Agrees w m key t
