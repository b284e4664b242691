-- A windowed count takes an item: which of its windows count it, which are late, and what the changelog is told.
-- Kafka Streams developer guide, "Windowing": a record is dropped from a window whose grace period is over in stream time.
use Rattle.std.specs.Prelude.{ℕ, ◌+◌, max, List, [], ◌∷◌, ◌++◌, Option, Some, None, cond, fold, nat_eq}
use Rattle.ks_query.specs.Streams.{Key}
use Rattle.ks_plan.specs.Plan.{Window}
use Rattle.ks_def_runs.specs.FinMap as map
use Rattle.ks_def_runs.specs.FinMap.{FinMap}
use Rattle.ks_query.specs.Streams.{StreamItem}
use Rattle.ks_query.specs.Windows.{by_window, windows}
use Rattle.ks_query.specs.Grace.{is_open}
use Rattle.ks_wire.specs.declared.values.Agg.{Agg}
use Rattle.ks_query.specs.Aggregates.{stream_add}
use Rattle.ks_def_tasks.specs.Messages.{Message, same_option}
use Rattle.ks_def_tasks.specs.Messages.Message.{KeptCount, KeptTime}

pub record Counted : Type 0 where
  pub time : Option ℕ
  pub counts : FinMap by_window Agg
  -- pairs of this item and a window that were dropped
  pub late : ℕ
  pub changes : List Message

-- the greater of a time and the greatest one before it, where there was one
abbrev pub greater : Option ℕ → ℕ → ℕ
greater None t = t
greater (Some s) t = max s t

-- one window of an item, by its start: counted while it is open, late after
abbrev pub count_window : Window → ℕ → Key → Counted → ℕ → Counted
count_window w now g c s =
    let new = stream_add None (map.get c.counts (g, s)) [] in
    cond (is_open w now s)
    (record c { counts = map.insert c.counts (g, s) new; changes = c.changes ++ KeptCount (g, s) new ∷ [] })
    (record c { late = c.late + 1 })

abbrev pub time_changes : Option ℕ → ℕ → List Message
time_changes old now = cond (same_option nat_eq old (Some now)) [] (KeptTime now ∷ [])

abbrev pub not_counted : Option ℕ → FinMap by_window Agg → Counted
not_counted old counts = record { time = old; counts = counts; late = 0; changes = [] }

-- the greatest time first, then the windows, rising
abbrev pub count_group : Window → Option ℕ → FinMap by_window Agg → ℕ → Option Key → Counted
count_group w old counts t None = not_counted old counts
count_group w old counts t (Some g) =
    let now = greater old t in
    fold (count_window w now g) (record { time = Some now; counts = counts; late = 0; changes = time_changes old now }) (windows w t)

abbrev pub count_item : Window → Option ℕ → FinMap by_window Agg → Option StreamItem → Counted
count_item w old counts None = not_counted old counts
count_item w old counts (Some x) = count_group w old counts x.time x.key
