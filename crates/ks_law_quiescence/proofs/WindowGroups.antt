-- Windowed counts where nothing was late: each window's count is that of the items that came.
use Rattle.std.proofs.Common.{◌≡◌, ℕ, zero, suc, ◌+◌, ◌<◌, ◌≤◌, Bool, true, false, cond, List, [], ◌∷◌, ◌++◌, map, get_or, Option, Some, None, fold, refl, sym, ap, ap₂, subst, ◌∙◌, arith, ⊎_elim, inl}
use Rattle.std.specs.Prelude.{option_map}
use Rattle.std.specs.Ordering.{eq_by_cmp, nat_cmp}
use Rattle.std.specs.Cmp.{IsTotalOrder, nat_cmp_total, on_total, then_total}
use Rattle.std.specs.Cmp.Lexicographic.{nat_list_cmp_total}
use Rattle.std.specs.FinMap.{IsAntisymmetric, slice_cmp-IsAntisymmetric, nat_cmp-IsAntisymmetric}
use Rattle.std.proofs.lemmas.Map.Lookups.{exact_pairs}
use Rattle.ks_record.specs.declared.record.TaskId.{TaskId}
use Rattle.ks_record.specs.Parts.{same_task}
use Rattle.ks_expr.specs.Eval.{Row}
use Rattle.ks_wire.specs.declared.values.Agg.{Agg}
use Rattle.ks_plan.specs.declared.node.Topic.TheVariants.{Repartition}
use Rattle.ks_plan.specs.Plan.{Plan, Kind, Window}
use Rattle.ks_plan.specs.Plan.Kind.{StreamSource, Windowed}
use Rattle.ks_plan.specs.Layout.{spread_of_topic, same_topic, kind_at}
use Rattle.ks_def_runs.specs.FinMap as fin
use Rattle.ks_def_runs.specs.FinMap.{FinMap}
use Rattle.ks_def_runs.specs.Bytes.{by_bytes}
use Rattle.ks_def_runs.proofs.Tables.{equal}
use Rattle.ks_query.specs.Streams.{Key, Input, StreamItem, group_key, grouped, with_some}
use Rattle.ks_query.specs.Windows.{WindowKey, by_window, windows}
use Rattle.ks_query.specs.Grace.{is_open}
use Rattle.ks_query.specs.Query.{add_to, in_windows}
use Rattle.ks_query.specs.Aggregates.{stream_add}
use Rattle.ks_def_runs.specs.Run.{Taken, RunState, take_first, initial, run}
use Rattle.ks_def_runs.proofs.Runs.{kept_by_run}
use Rattle.ks_def_runs.proofs.Sums.{sum_map, sum_map-append}
use Rattle.ks_def_tasks.specs.Messages.{Place, Message, Item, Store, Rules}
use Rattle.ks_def_tasks.specs.Messages.Message.{Given, Keyed, Moved, Asked, Answered, Kept, KeptCount, KeptTime, KeptHash}
use Rattle.ks_def_tasks.specs.Windowed.{Counted, count_window, count_group, count_item, greater, time_changes}
use Rattle.ks_def_tasks.specs.Step.{Arrival, arrived, step_key, item_keyed, item_into, items_from, counted_at, late_over, whole_step}
use Rattle.ks_def_tasks.specs.Tasks.{arrival, machine, step, inputs_of, is_changelog, taker}
use Rattle.ks_def_tasks.proofs.Names.{same_task-is}
use Rattle.ks_law_quiescence.specs.States.{home_task}
use Rattle.ks_law_topology.specs.Taken.{messages}
use Rattle.ks_law_quiescence.specs.Windows.{starts_of, pairs_of_group}
use Rattle.ks_law_quiescence.proofs.Counted.{counted, add_counted}
use Rattle.ks_law_topology.proofs.Each.{Each, each_parts}
use Rattle.ks_law_topology.proofs.Fits.{Fits, Beside, own_keys, each_at}
use Rattle.ks_law_topology.proofs.Mixed.{Stands_at}
use Rattle.ks_law_topology.proofs.Placed.{Placed, FitsAt, FitsKey, fits_key, Owned, items_owned, placed_step, placed_run, topic-is}
use Rattle.ks_law_topology.proofs.ItemKeys.{item_key}

pub window_total : IsTotalOrder by_window
window_total = then_total (on_total (λ (k : WindowKey). k.0) nat_list_cmp_total) (on_total (λ (k : WindowKey). k.1) nat_cmp_total)

pub window_same : IsAntisymmetric by_window
window_same = exact_pairs by_bytes nat_cmp (slice_cmp-IsAntisymmetric nat_cmp-IsAntisymmetric) nat_cmp-IsAntisymmetric

-- ---- how often a window is one of an item's
module _ (k : WindowKey) (w : Window) where
  abbrev pub starts_at : Key → List ℕ → ℕ
  starts_at h ss = starts_of k h ss

  abbrev pub group_windows : Option Key → ℕ → ℕ
  group_windows h time = pairs_of_group k w h time

  abbrev pub own_windows : Option StreamItem → ℕ
  own_windows None = 0
  own_windows (Some y) = group_windows y.key y.time

  abbrev pub item_windows : Option (List ℕ) → Option StreamItem → ℕ
  item_windows by None = 0
  item_windows by (Some y) = group_windows (group_key by y) y.time

  -- ---- one item at a windowed count
  late_step : (now : ℕ) (g : Key) (c : Counted) (s : ℕ) → c.late ≤ (count_window w now g c s).late
  late_step now g c s = elim (is_open w now s) as (λ b. c.late ≤ (cond b (record c { counts = fin.insert c.counts (g, s) (stream_add None (fin.get c.counts (g, s)) []); changes = c.changes ++ KeptCount (g, s) (stream_add None (fin.get c.counts (g, s)) []) ∷ [] }) (record c { late = c.late + 1 })).late) [ true ↦ omega arith | false ↦ omega arith ]

  late_fold : (now : ℕ) (g : Key) (c : Counted) (ss : List ℕ) → c.late ≤ (fold (count_window w now g) c ss).late
  late_fold now g c [] = omega arith
  late_fold now g c (s ∷ ss) = omega (arith, late_step now g c s, late_fold now g (count_window w now g c s) ss)

  one_window : (now : ℕ) (g : Key) (c : Counted) (s x : ℕ) → fin.get c.counts k ≡ counted x 0 → (count_window w now g c s).late ≡ c.late → fin.get (count_window w now g c s).counts k ≡ counted (x + cond (eq_by_cmp by_window k (g, s)) 1 0) 0
  one_window now g c s x e late =
      let new = stream_add None (fin.get c.counts (g, s)) [] in
      elim (is_open w now s) as (λ b.
      (cond b (record c { counts = fin.insert c.counts (g, s) new; changes = c.changes ++ KeptCount (g, s) new ∷ [] }) (record c { late = c.late + 1 })).late ≡ c.late →
      fin.get (cond b (record c { counts = fin.insert c.counts (g, s) new; changes = c.changes ++ KeptCount (g, s) new ∷ [] }) (record c { late = c.late + 1 })).counts k ≡ counted (x + cond (eq_by_cmp by_window k (g, s)) 1 0) 0) [
        | true ↦ λ l. fin.get-insert window_total c.counts (g, s) new k
            ∙ elim (eq_by_cmp by_window k (g, s)) as (λ b. eq_by_cmp by_window k (g, s) ≡ b → cond b (Some new) (fin.get c.counts k) ≡ counted (x + cond b 1 0) 0) [
              | true ↦ λ b.
                  let is : k ≡ (g, s) = window_same k (g, s) (equal _ b) in
                  ap (λ v. Some (stream_add None (fin.get c.counts v) [])) (sym is) ∙ ap (λ v. Some (stream_add None v [])) e ∙ add_counted None x 0 [] (λ z. refl)
              | false ↦ λ b. e ∙ ap₂ counted (omega arith) refl
            ] refl
        | false ↦ λ l. absurd (omega arith)
      ] late

  windows_counted : (now : ℕ) (g : Key) (c : Counted) (ss : List ℕ) (x : ℕ) → fin.get c.counts k ≡ counted x 0 → (fold (count_window w now g) c ss).late ≡ c.late → fin.get (fold (count_window w now g) c ss).counts k ≡ counted (x + starts_at g ss) 0
  windows_counted now g c [] x e late = e ∙ ap₂ counted (omega arith) refl
  windows_counted now g c (s ∷ ss) x e late =
      let first = late_step now g c s in
      let rest = late_fold now g (count_window w now g c s) ss in
      let one = one_window now g c s x e (omega arith) in
      windows_counted now g (count_window w now g c s) ss (x + cond (eq_by_cmp by_window k (g, s)) 1 0) one (omega arith) ∙ ap₂ counted (omega arith) refl

  group_counted : (old : Option ℕ) (counts : FinMap by_window Agg) (time : ℕ) (h : Option Key) (x : ℕ) → fin.get counts k ≡ counted x 0 → (count_group w old counts time h).late ≡ 0 → fin.get (count_group w old counts time h).counts k ≡ counted (x + group_windows h time) 0
  group_counted old counts time None x e late = e ∙ ap₂ counted (omega arith) refl
  group_counted old counts time (Some g) x e late = windows_counted (greater old time) g (record { time = Some (greater old time); counts = counts; late = 0; changes = time_changes old (greater old time) }) (windows w time) x e late

  pub item_counted : (old : Option ℕ) (counts : FinMap by_window Agg) (item : Option StreamItem) (x : ℕ) → fin.get counts k ≡ counted x 0 → (count_item w old counts item).late ≡ 0 → fin.get (count_item w old counts item).counts k ≡ counted (x + own_windows item) 0
  item_counted old counts None x e late = e ∙ ap₂ counted (omega arith) refl
  item_counted old counts (Some y) x e late = group_counted old counts y.time y.key x e late

  -- ---- the query's windows
  pairs_counted : (m : FinMap by_window Agg) (x : ℕ) (es : List (WindowKey × Row)) → fin.get m k ≡ counted x 0 →
      fin.get (fold (add_to {R = by_window} None) m es) k ≡ counted (x + sum_map (λ e. cond (eq_by_cmp by_window k e.0) 1 0) es) 0
  pairs_counted m x [] e = e ∙ ap₂ counted (omega arith) refl
  pairs_counted m x (r ∷ es) e =
      let new = stream_add None (fin.get m r.0) r.1 in
      let here : fin.get (add_to {R = by_window} None m r) k ≡ counted (x + cond (eq_by_cmp by_window k r.0) 1 0) 0 =
      fin.get-insert window_total m r.0 new k
      ∙ elim (eq_by_cmp by_window k r.0) as (λ b. eq_by_cmp by_window k r.0 ≡ b → cond b (Some new) (fin.get m k) ≡ counted (x + cond b 1 0) 0) [
        | true ↦ λ b. ap (λ v. Some (stream_add None (fin.get m v) r.1)) (sym (window_same k r.0 (equal _ b))) ∙ ap (λ v. Some (stream_add None v r.1)) e ∙ add_counted None x 0 r.1 (λ z. refl)
        | false ↦ λ b. e ∙ ap₂ counted (omega arith) refl
      ] refl in
      pairs_counted (add_to {R = by_window} None m r) (x + cond (eq_by_cmp by_window k r.0) 1 0) es here ∙ ap₂ counted (omega arith) refl

  abbrev at_key_of : WindowKey × Row → ℕ
  at_key_of e = cond (eq_by_cmp by_window k e.0) 1 0

  one_item : (h : Key) (row : Row) (ss : List ℕ) → sum_map at_key_of (map (λ s. ((h, s), row)) ss) ≡ starts_at h ss
  one_item h row [] = refl
  one_item h row (s ∷ ss) = ap (λ n. cond (eq_by_cmp by_window k (h, s)) 1 0 + n) (one_item h row ss)

  pairs_of : (by : Option (List ℕ)) (xs : List StreamItem) → sum_map (λ e. cond (eq_by_cmp by_window k e.0) 1 0) (in_windows w (grouped by xs)) ≡ sum_map (λ y. item_windows by (Some y)) xs
  pairs_of by [] = refl
  pairs_of by (y ∷ ys) = one (group_key by y) (pairs_of by ys)
    where
      zero_sum : (n : ℕ) → n ≡ 0 + n
      zero_sum n = omega arith

      one : (h : Option Key) → sum_map (λ e. cond (eq_by_cmp by_window k e.0) 1 0) (in_windows w (grouped by ys)) ≡ sum_map (λ y. item_windows by (Some y)) ys →
          sum_map (λ e. cond (eq_by_cmp by_window k e.0) 1 0) (in_windows w (with_some (option_map (λ h. (h, y)) h) (grouped by ys))) ≡ group_windows h y.time + sum_map (λ y. item_windows by (Some y)) ys
      one None e = e ∙ zero_sum _
      one (Some h) e = sum_map-append (λ e. cond (eq_by_cmp by_window k e.0) 1 0) (map (λ s. ((h, s), y.row)) (windows w y.time)) _ ∙ ap₂ (λ a b. a + b) (one_item h y.row (windows w y.time)) e

  pub query_counted : (by : Option (List ℕ)) (xs : List StreamItem) → fin.get (fold (add_to {R = by_window} None) fin.empty (in_windows w (grouped by xs))) k ≡ counted (sum_map (λ y. item_windows by (Some y)) xs) 0
  query_counted by xs = let e = pairs_of by xs in pairs_counted fin.empty 0 (in_windows w (grouped by xs)) (fin.get-empty by_window k) ∙ ap₂ counted (omega arith) refl

-- ---- late records of one step, by node
node_late : (f : ℕ → Kind → Counted) (m : ℕ) (ks : List Kind) (n : ℕ) (k : Kind) → Stands_at n k m ks → late_over f m ks ≡ 0 → (f n k).late ≡ 0
node_late f m [] n k s e = absurd s
node_late f m (y ∷ ys) n k s e = ⊎_elim
    (λ (h : (m ≡ n) × (y ≡ k)). ap₂ (λ i z. (f i z).late) (sym h.0) (sym h.1) ∙ first (f m y).late _ e)
    (λ (h : (m < n) × Stands_at n k (suc m) ys). node_late f (suc m) ys n k h.1 (second (f m y).late _ e)) s
  where
    first : (a b : ℕ) → a + b ≡ 0 → a ≡ 0
    first a b e = omega arith

    second : (a b : ℕ) → a + b ≡ 0 → b ≡ 0
    second a b e = omega arith

kind_here : (m : ℕ) (ks : List Kind) (i : ℕ) (k : Kind) → Stands_at (m + i) k m ks → get_or ks i (StreamSource 0) ≡ k
kind_here m [] i k s = absurd s
kind_here m (y ∷ ys) zero k s = ⊎_elim (λ (h : (m ≡ m + 0) × (y ≡ k)). h.1) (λ (h : (m < m + 0) × Stands_at (m + 0) k (suc m) ys). absurd (let lt : m < m + 0 = h.0 in omega arith)) s
kind_here m (y ∷ ys) (suc i) k s = ⊎_elim
    (λ (h : (m ≡ m + suc i) × (y ≡ k)). absurd (let e : m ≡ m + suc i = h.0 in omega arith))
    (λ (h : (m < m + suc i) × Stands_at (m + suc i) k (suc m) ys). kind_here (suc m) ys i k (subst (λ c. Stands_at c k (suc m) ys) (omega arith) h.1)) s

module _ (rules : Rules) (p : Plan) (fits : Fits p) (n f : ℕ) (by : Option (List ℕ)) (w : Window) (through : Bool) (stands : Stands_at n (Windowed f by w through) 0 p.kinds) (k : WindowKey) where
  abbrev home : TaskId
  home = home_task rules p n k.0

  -- the item that a step brings to the count
  abbrev pub brought : Taken TaskId Place Item → Option StreamItem
  brought t = item_into (arrival p t.place t.item) (items_from (arrival p t.place t.item) (λ m. None) 0 p.kinds) n f through

  abbrev pub share_of_step : Taken TaskId Place Item → ℕ
  share_of_step t = own_windows k w (brought t)

  pub kind_is : kind_at p n ≡ Windowed f by w through
  kind_is = kind_here 0 p.kinds n (Windowed f by w through) (subst (λ c. Stands_at c (Windowed f by w through) 0 p.kinds) (omega arith) stands)

  counts_step : (st : Store) (t : Taken TaskId Place Item) (x : ℕ) → fin.get (st.counts n) k ≡ counted x 0 → (whole_step rules p st (arrival p t.place t.item)).late ≡ 0 →
      fin.get ((whole_step rules p st (arrival p t.place t.item)).store.counts n) k ≡ counted (x + share_of_step t) 0
  counts_step st t x e late =
      let a : Arrival = arrival p t.place t.item in
      let items = items_from a (λ m. None) 0 p.kinds in
      let own = node_late (counted_at a items st) 0 p.kinds n (Windowed f by w through) stands late in
      ap (λ c. fin.get (counted_at a items st n c).counts k) kind_is ∙ item_counted k w (st.times n) (st.counts n) (brought t) x e own

  -- an item of the group comes to the group's task alone
  pub none_matches : (h : Key) (ss : List ℕ) → ((s : ℕ) → eq_by_cmp by_window k (h, s) ≡ false) → starts_at k w h ss ≡ 0
  none_matches h [] differ = refl
  none_matches h (s ∷ ss) differ = rw (differ s) (omega (arith, none_matches h ss differ))

  away_windows : (q : Place) (h : Option Key) (time : ℕ) → same_task home ((machine rules p).reader q) ≡ false → ((g : Key) → h ≡ Some g → (machine rules p).reader q ≡ home_task rules p n g) → group_windows k w h time ≡ 0
  away_windows q None time away there = refl
  away_windows q (Some g) time away there = none_matches g (windows w time) (λ s.
      elim (eq_by_cmp by_window k (g, s)) as (λ b. eq_by_cmp by_window k (g, s) ≡ b → b ≡ false) [
        | true ↦ λ b.
            let is : k.0 ≡ g = ap (λ (c : WindowKey). c.0) (window_same k (g, s) (equal _ b)) in
            let at_home : (machine rules p).reader q ≡ home = there g refl ∙ ap (home_task rules p n) (sym is) in
            sym ((same_task-is home ((machine rules p).reader q)).1 (sym at_home)) ∙ away
        | false ↦ λ b. refl
      ] refl)

  came_keyed : (q : Place) (x : Item) (m : Message) → (b : Bool) → (is_changelog q.topic ≡ false → FitsAt rules p q m) → same_topic q.topic (Repartition n) ≡ b → same_task home ((machine rules p).reader q) ≡ false →
      own_windows k w (item_keyed x.time (cond b (Some m) None)) ≡ 0
  came_keyed q x m false fit e away = refl
  came_keyed q x (Keyed h row) true fit e away = away_windows q (Some h) x.time away (λ g is.
      let topic : q.topic ≡ Repartition n = topic-is q.topic (Repartition n) e in
      let key : h ≡ g = of_some is in
      let at : FitsKey rules p q h = fit (ap is_changelog topic) in
      ap₂ (λ (i j : ℕ). record { sub = i; part = j }) (ap (taker p) topic) (at ∙ ap₂ (λ c u. rules.part c (spread_of_topic p u)) key topic))
    where
      of_some : {A : Type 0} {y z : A} → Some y ≡ Some z → y ≡ z
      of_some e = cc
  came_keyed q x (Given c v) true fit e away = refl
  came_keyed q x (Moved c d) true fit e away = refl
  came_keyed q x (Asked b c s) true fit e away = refl
  came_keyed q x (Answered c r) true fit e away = refl
  came_keyed q x (Kept c v) true fit e away = refl
  came_keyed q x (KeptCount c v) true fit e away = refl
  came_keyed q x (KeptTime c) true fit e away = refl
  came_keyed q x (KeptHash b c h) true fit e away = refl

  came_item : (q : Place) (x : Item) → (is_changelog q.topic ≡ false → FitsAt rules p q x.message) → Beside p f n → get_or (own_keys p.kinds) f false ≡ true → same_task home ((machine rules p).reader q) ≡ false →
      own_windows k w (items_from (arrival p q x) (λ m. None) 0 p.kinds f) ≡ 0
  came_item q x fit beside own away =
      let a : Arrival = arrival p q x in
      ⊎_elim (λ (e : items_from a (λ m. None) 0 p.kinds f ≡ None). ap (own_windows k w) e)
      (λ o. of_item (items_from a (λ m. None) 0 p.kinds f) refl o)
      (items_owned rules p a (λ m. None) 0 p.kinds (λ c. inl refl) fits f)
    where
      of_item : (i : Option StreamItem) → items_from (arrival p q x) (λ m. None) 0 p.kinds f ≡ i → Owned rules p q.topic f → own_windows k w i ≡ 0
      of_item None e o = refl
      of_item (Some y) e o = away_windows q y.key y.time away (λ g is.
          let key : step_key x.message ≡ Some g = item_key (arrival p q x) p f own y e ∙ is in
          let at : FitsKey rules p q g = fits_key rules p q x.message g key (fit o.list) in
          ap₂ (λ (i j : ℕ). record { sub = i; part = j }) (o.sub ∙ beside.sub) (at ∙ ap (rules.part g) (o.spread ∙ beside.spread)))

  pub elsewhere : (b : Bool) → through ≡ b → (q : Place) (x : Item) → (is_changelog q.topic ≡ false → FitsAt rules p q x.message) → same_task home ((machine rules p).reader q) ≡ false → (s : Option TaskId) →
      share_of_step (record { sender = s; place = q; item = x }) ≡ 0
  elsewhere true is q x fit away s =
      let a : Arrival = arrival p q x in
      ap (λ c. own_windows k w (cond c (item_keyed x.time (arrived a (Repartition n))) (items_from a (λ m. None) 0 p.kinds f))) is ∙ came_keyed q x x.message (same_topic q.topic (Repartition n)) fit refl away
  elsewhere false is q x fit away s =
      let a : Arrival = arrival p q x in
      let h = each_at p 0 p.kinds n (Windowed f by w through) fits stands in
      ap (λ c. own_windows k w (cond c (item_keyed x.time (arrived a (Repartition n))) (items_from a (λ m. None) 0 p.kinds f))) is ∙ came_item q x fit (h.1 is) (h.2 is).1 away

  abbrev pub all_shares : List (Taken TaskId Place Item) → ℕ
  all_shares ts = sum_map share_of_step ts

  -- each task's count, where nothing was late
  pub record Windows (st : RunState TaskId Place Store Item) : Type 0 where
    pub placed : Placed rules p st
    pub counts : st.late ≡ 0 → (u : TaskId) → fin.get ((st.stores u).counts n) k ≡ counted (cond (same_task u home) (all_shares st.taken) 0) 0

  windows_step : (st : RunState TaskId Place Store Item) (s : Option TaskId) (q : Place) (xs : List Item) → st.waiting s q ≡ xs → Windows st → Windows (take_first (machine rules p) st s q xs)
  windows_step st s q [] e h = h
  windows_step st s q (x ∷ rest) e h = record { placed = placed_step rules p fits st s q (x ∷ rest) e h.placed; counts = counts }
    where
      r : TaskId
      r = (machine rules p).reader q

      now : Taken TaskId Place Item
      now = record { sender = s; place = q; item = x }

      fit : is_changelog q.topic ≡ false → FitsAt rules p q x.message
      fit list = (each_parts (FitsAt rules p q) x.message (messages rest) (subst (λ l. Each (FitsAt rules p q) (messages l)) e (h.placed.waiting s q list))).0

      grown : all_shares (st.taken ++ now ∷ []) ≡ all_shares st.taken + share_of_step now
      grown = let e = sum_map-append share_of_step st.taken (now ∷ []) in omega arith

      counts : st.late + (step rules p r (st.stores r) q x).late ≡ 0 → (u : TaskId) →
          fin.get ((cond (same_task u r) (step rules p r (st.stores r) q x).store (st.stores u)).counts n) k ≡ counted (cond (same_task u home) (all_shares (st.taken ++ now ∷ [])) 0) 0
      counts late u =
          let before : st.late ≡ 0 = omega arith in
          let none : (step rules p r (st.stores r) q x).late ≡ 0 = omega arith in
          elim (same_task u r) as (λ b. same_task u r ≡ b → fin.get ((cond b (step rules p r (st.stores r) q x).store (st.stores u)).counts n) k ≡ counted (cond (same_task u home) (all_shares (st.taken ++ now ∷ [])) 0) 0) [
            | true ↦ λ b.
                let is : u ≡ r = (same_task-is u r).0 b in
                counts_step (st.stores r) now (cond (same_task r home) (all_shares st.taken) 0) (h.counts before r) none
                ∙ elim (same_task r home) as (λ c. same_task r home ≡ c → counted (cond c (all_shares st.taken) 0 + share_of_step now) 0 ≡ counted (cond (same_task u home) (all_shares (st.taken ++ now ∷ [])) 0) 0) [
                  | true ↦ λ c. ap (λ m. counted m 0) (sym grown) ∙ ap (λ d. counted (cond d (all_shares (st.taken ++ now ∷ [])) 0) 0) (sym (ap (λ v. same_task v home) is ∙ c))
                  | false ↦ λ c.
                      let away : same_task home r ≡ false = turned c in
                      let zero_share = elsewhere through refl q x fit away s in
                      let gone : 0 + share_of_step now ≡ 0 = omega arith in
                      ap (λ m. counted m 0) gone ∙ ap (λ d. counted (cond d (all_shares (st.taken ++ now ∷ [])) 0) 0) (sym (ap (λ v. same_task v home) is ∙ c))
                ] refl
            | false ↦ λ b. h.counts before u ∙ elim (same_task u home) as (λ c. same_task u home ≡ c → counted (cond c (all_shares st.taken) 0) 0 ≡ counted (cond c (all_shares (st.taken ++ now ∷ [])) 0) 0) [
              | true ↦ λ c.
                  let away : same_task home r ≡ false = ap (λ v. same_task v r) (sym ((same_task-is u home).0 c)) ∙ b in
                  let zero_share = elsewhere through refl q x fit away s in
                  let same : all_shares st.taken ≡ all_shares (st.taken ++ now ∷ []) = omega (arith, grown) in
                  ap (λ m. counted m 0) same
              | false ↦ λ c. refl
            ] refl
          ] refl
        where
          turned : same_task r home ≡ false → same_task home r ≡ false
          turned c = elim (same_task home r) as (λ d. same_task home r ≡ d → d ≡ false) [
            | true ↦ λ d. sym ((same_task-is r home).1 (sym ((same_task-is home r).0 d))) ∙ c
            | false ↦ λ d. refl
          ] refl

  pub windows_run : (records : List Input) (schedule : List (Option TaskId × Place)) → Windows (run (machine rules p) (inputs_of rules p records) schedule)
  windows_run records schedule = kept_by_run (machine rules p) Windows (λ st c h. windows_step st c.0 c.1 (st.waiting c.0 c.1) refl h) (initial (machine rules p) (inputs_of rules p records))
      (record { placed = placed_run rules p fits records []; counts = λ late u. fin.get-empty by_window k ∙ nothing (same_task u home) }) schedule
    where
      nothing : (b : Bool) → None ≡ counted (cond b 0 0) 0
      nothing true = refl
      nothing false = refl
