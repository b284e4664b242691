-- What an item whose windows are all open makes of a windowed count: nothing is late, and the greatest time stays within its bound.
use Rattle.std.proofs.Common.{◌≡◌, ℕ, ◌+◌, ◌<◌, ◌≤◌, Bool, true, false, cond, List, [], ◌∷◌, ◌++◌, Option, Some, None, fold, refl, sym, ap, ◌∙◌, arith}
use Rattle.std.proofs.lemmas.Bool.{and_parts, and_from, lt-ltb, ltb-true}
use Rattle.ks_plan.specs.Plan.{Window}
use Rattle.ks_def_runs.specs.FinMap as map
use Rattle.ks_def_runs.specs.FinMap.{FinMap}
use Rattle.ks_query.specs.Streams.{Key, StreamItem}
use Rattle.ks_query.specs.Windows.{by_window, windows}
use Rattle.ks_query.specs.Aggregates.{stream_add}
use Rattle.ks_query.specs.Grace.{is_open, all_open}
use Rattle.ks_wire.specs.declared.values.Agg.{Agg}
use Rattle.ks_def_tasks.specs.Messages.Message.{KeptCount}
use Rattle.ks_def_tasks.specs.Windowed.{Counted, greater, count_window, time_changes, count_group, count_item}
use Rattle.ks_law_settled.specs.InTime.{AtMost}

-- what is open at a time was open before
earlier_open : (w : Window) (now most : ℕ) → now ≤ most → (s : ℕ) → is_open w most s ≡ true → is_open w now s ≡ true
earlier_open w now most le s h = let lt : most < s + w.size + w.grace = ltb-true most (s + w.size + w.grace) h in lt-ltb now (s + w.size + w.grace) (omega (arith, lt, le))

pub earlier_all : (w : Window) (now most : ℕ) → now ≤ most → (ss : List ℕ) → all_open w most ss ≡ true → all_open w now ss ≡ true
earlier_all w now most le [] h = refl
earlier_all w now most le (s ∷ ss) h =
    let both = and_parts (is_open w most s) (all_open w most ss) h in
    and_from (is_open w now s) (all_open w now ss) (earlier_open w now most le s both.0) (earlier_all w now most le ss both.1)

module _ (w : Window) (now : ℕ) (g : Key) where
  abbrev one_open : Counted → ℕ → Counted
  one_open c s =
      let new = stream_add None (map.get c.counts (g, s)) [] in
      record c { counts = map.insert c.counts (g, s) new; changes = c.changes ++ KeptCount (g, s) new ∷ [] }

  same_time : (c : Counted) (s : ℕ) → (count_window w now g c s).time ≡ c.time
  same_time c s = by (is_open w now s)
    where
      by : (b : Bool) → (cond b (one_open c s) (record c { late = c.late + 1 })).time ≡ c.time
      by true = refl
      by false = refl

  same_late : (c : Counted) (s : ℕ) → is_open w now s ≡ true → (count_window w now g c s).late ≡ c.late
  same_late c s e = ap (λ b. (cond b (one_open c s) (record c { late = c.late + 1 })).late) e

  pub times_same : (ss : List ℕ) (c : Counted) → (fold (count_window w now g) c ss).time ≡ c.time
  times_same [] c = refl
  times_same (s ∷ ss) c = times_same ss (count_window w now g c s) ∙ same_time c s

  pub none_late : (ss : List ℕ) (c : Counted) → all_open w now ss ≡ true → (fold (count_window w now g) c ss).late ≡ c.late
  none_late [] c h = refl
  none_late (s ∷ ss) c h = let both = and_parts (is_open w now s) (all_open w now ss) h in none_late ss (count_window w now g c s) both.1 ∙ same_late c s both.0

greater_most : (most : ℕ) (old : Option ℕ) (t : ℕ) → AtMost most old → t ≤ most → greater old t ≤ most
greater_most most None t h le = le
greater_most most (Some s) t h le = omega (arith, h, le)

-- an item with a key and a time that are bounded
module _ (w : Window) (most : ℕ) (old : Option ℕ) (counts : FinMap by_window Agg) (held : AtMost most old) where
  group_time : (t : ℕ) (k : Option Key) → ((g : Key) → k ≡ Some g → t ≤ most) → AtMost most (count_group w old counts t k).time
  group_time t None h = held
  group_time t (Some g) h = is (times_same w (greater old t) g (windows w t) (record { time = Some (greater old t); counts = counts; late = 0; changes = time_changes old (greater old t) }))
    where
      is : {o : Option ℕ} → o ≡ Some (greater old t) → AtMost most o
      is e = along (sym e)
        where
          along : {o : Option ℕ} → Some (greater old t) ≡ o → AtMost most o
          along {o = None} f = absurd cc
          along {o = Some x} f = let same : greater old t ≡ x = cc in let le : greater old t ≤ most = greater_most most old t held (h g refl) in omega (arith, same, le)

  group_late : (t : ℕ) (k : Option Key) → ((g : Key) → k ≡ Some g → t ≤ most) → ((g : Key) → k ≡ Some g → all_open w most (windows w t) ≡ true) → (count_group w old counts t k).late ≡ 0
  group_late t None h o = refl
  group_late t (Some g) h o = none_late w (greater old t) g (windows w t) (record { time = Some (greater old t); counts = counts; late = 0; changes = time_changes old (greater old t) })
      (earlier_all w (greater old t) most (greater_most most old t held (h g refl)) (windows w t) (o g refl))

  pub item_time : (x : Option StreamItem) → ((y : StreamItem) → x ≡ Some y → (g : Key) → y.key ≡ Some g → y.time ≤ most) → AtMost most (count_item w old counts x).time
  item_time None h = held
  item_time (Some y) h = group_time y.time y.key (h y refl)

  pub item_late : (x : Option StreamItem) → ((y : StreamItem) → x ≡ Some y → (g : Key) → y.key ≡ Some g → y.time ≤ most) →
      ((y : StreamItem) → x ≡ Some y → (g : Key) → y.key ≡ Some g → all_open w most (windows w y.time) ≡ true) → (count_item w old counts x).late ≡ 0
  item_late None h o = refl
  item_late (Some y) h o = group_late y.time y.key (h y refl) (o y refl)
