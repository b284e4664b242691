-- Late pairs of all windows together: once nothing waits they are the run's late count.
use Rattle.std.proofs.Common.{◌≡◌, ℕ, zero, suc, ◌+◌, ◌*◌, ◌<◌, ◌≤◌, Bool, true, false, cond, T, List, length, length-append, append_assoc, [], ◌∷◌, ◌++◌, map, Option, Some, None, fold, refl, sym, ap, ap₂, subst, ◌∙◌, arith}
use Rattle.std.specs.Prelude.{option_map, is_some}
use Rattle.std.specs.Ordering.{eq_by_cmp, is_eq}
use Rattle.std.specs.Cmp.{tied_itself}
use Rattle.std.specs.FinMap.Entries.{find, is_sorted}
use Rattle.ks_record.specs.declared.record.TaskId.{TaskId}
use Rattle.ks_record.specs.Parts.{same_task}
use Rattle.ks_expr.specs.Eval.{Row}
use Rattle.ks_plan.specs.Plan.{Plan, Kind, Window, is_windowed}
use Rattle.ks_plan.specs.Plan.Kind.{StreamSource, TableSource, StreamFilter, TableFilter, StreamMap, TableMap, KeySelected, StreamAggregate, TableAggregate, Windowed, KeyJoin, ForeignKeyJoin}
use Rattle.ks_plan.specs.Layout.{kind_at}
use Rattle.ks_def_runs.specs.FinMap as fin
use Rattle.ks_def_runs.proofs.Tables.{equal, find_below, head_of, tail_of}
use Rattle.ks_query.specs.Streams.{Key, Input, StreamItem}
use Rattle.ks_query.specs.Windows.{WindowKey, by_window, windows}
use Rattle.ks_query.specs.Grace.{is_open}
use Rattle.ks_query.specs.Query.{query}
use Rattle.ks_query.specs.Aggregates.{agg_row}
use Rattle.ks_def_runs.specs.Run.{Machine, Taken, late_all}
use Rattle.ks_def_runs.proofs.Runs.{Follows-run}
use Rattle.ks_def_runs.proofs.Sums.{sum_map, sum_map-add, sum_map-same, sum_map-zero}
use Rattle.ks_def_tasks.specs.Messages.{Place, Item, Store, Rules}
use Rattle.ks_def_tasks.specs.Windowed.{Counted, count_window, count_group, count_item, greater, time_changes}
use Rattle.ks_def_tasks.specs.Step.{Arrival, items_from, counted_at, late_over}
use Rattle.ks_def_tasks.specs.Tasks.{arrival, machine, step, inputs_of}
use Rattle.ks_def_tasks.specs.Rest.{IsDrained}
use Rattle.ks_def_tasks.proofs.Names.{names}
use Rattle.ks_law_quiescence.specs.States.{State, state_of}
use Rattle.ks_law_quiescence.specs.Windows.{late_starts, late_of_group, late_of_item, late_at, counting, late_pairs, starts_of, late_of_windows, late_of_nodes}
use Rattle.ks_law_quiescence.proofs.Counted.{counted}
use Rattle.ks_law_topology.proofs.Each.{Each, each_nothing, each_first, each_parts}
use Rattle.ks_law_topology.proofs.Fits.{Fits, each_at, stands_within, stands_after}
use Rattle.ks_law_topology.proofs.Mixed.{Stands_at}
use Rattle.ks_law_quiescence.proofs.WindowGroups.{window_total, window_same, group_windows, own_windows, brought, all_shares, kind_is}
use Rattle.ks_law_quiescence.proofs.WindowsRest.{shares_are, query_is}

-- ---- a key among sorted keys
module _ (k : WindowKey) where
  abbrev key_count : List (WindowKey × Row) → ℕ
  key_count es = sum_map (λ (c : WindowKey). cond (eq_by_cmp by_window c k) 1 0) (map (λ e. e.0) es)

  turned_eq : (c : WindowKey) → eq_by_cmp by_window c k ≡ eq_by_cmp by_window k c
  turned_eq c = elim (eq_by_cmp by_window k c) as (λ b. eq_by_cmp by_window k c ≡ b → eq_by_cmp by_window c k ≡ b) [
    | true ↦ λ b. ap (λ v. eq_by_cmp by_window v k) (sym (window_same k c (equal _ b))) ∙ ap is_eq (tied_itself window_total k)
    | false ↦ λ b. elim (eq_by_cmp by_window c k) as (λ d. eq_by_cmp by_window c k ≡ d → d ≡ false) [
      | true ↦ λ d. sym (ap is_eq (tied_itself window_total k)) ∙ ap (eq_by_cmp by_window k) (sym (window_same c k (equal _ d))) ∙ b
      | false ↦ λ d. refl
    ] refl
  ] refl

  none_counted : (es : List (WindowKey × Row)) → find by_window k es ≡ None → key_count es ≡ 0
  none_counted [] e = refl
  none_counted (x ∷ es) e =
      elim (eq_by_cmp by_window k x.0) as (λ b. eq_by_cmp by_window k x.0 ≡ b → cond b (Some x.1) (find by_window k es) ≡ None → key_count (x ∷ es) ≡ 0) [
        | true ↦ λ b f. cc
        | false ↦ λ b f. ap₂ (λ c n. cond c 1 0 + n) (turned_eq x.0 ∙ b) (none_counted es f)
      ] refl e

  once_counted : (es : List (WindowKey × Row)) → T (is_sorted by_window es) → is_some (find by_window k es) ≡ true → key_count es ≡ 1
  once_counted [] h e = cc
  once_counted (x ∷ es) h e =
      elim (eq_by_cmp by_window k x.0) as (λ b. eq_by_cmp by_window k x.0 ≡ b → is_some (cond b (Some x.1) (find by_window k es)) ≡ true → key_count (x ∷ es) ≡ 1) [
        | true ↦ λ b f.
            let is : k ≡ x.0 = window_same k x.0 (equal _ b) in
            let none : find by_window k es ≡ None = ap (λ c. find by_window c es) is ∙ find_below window_total (λ y. 0) x.0 es (head_of _ _ h) in
            ap₂ (λ c n. cond c 1 0 + n) (turned_eq x.0 ∙ b) (none_counted es none)
        | false ↦ λ b f. ap₂ (λ c n. cond c 1 0 + n) (turned_eq x.0 ∙ b) (once_counted es (tail_of _ _ h) f)
      ] refl e

-- ---- one step, over all windows
module _ (w : Window) (ks : List WindowKey) where
  abbrev Covers : Key → List ℕ → Type 0
  Covers g ss = Each (λ s. sum_map (λ (k : WindowKey). cond (eq_by_cmp by_window k (g, s)) 1 0) ks ≡ 1) ss

  closed : ℕ → List ℕ → ℕ
  closed now [] = 0
  closed now (s ∷ ss) = cond (is_open w now s) 0 1 + closed now ss

  late_fold : (now : ℕ) (g : Key) (c : Counted) (ss : List ℕ) → (fold (count_window w now g) c ss).late ≡ c.late + closed now ss
  unfolding closed
  late_fold now g c [] = omega arith
  late_fold now g c (s ∷ ss) =
      late_fold now g (count_window w now g c s) ss
      ∙ one (is_open w now s) refl
    where
      one : (b : Bool) → is_open w now s ≡ b → (count_window w now g c s).late + closed now ss ≡ c.late + (cond (is_open w now s) 0 1 + closed now ss)
      one true e = rw e (omega arith)
      one false e = rw e (omega arith)

  scaled_key : (g : Key) (s v : ℕ) (ks : List WindowKey) → sum_map (λ (k : WindowKey). cond (eq_by_cmp by_window k (g, s)) v 0) ks ≡ sum_map (λ (k : WindowKey). cond (eq_by_cmp by_window k (g, s)) 1 0) ks * v
  scaled_key g s v [] = omega arith
  scaled_key g s v (k ∷ ks) = one (eq_by_cmp by_window k (g, s)) _ _ (scaled_key g s v ks)
    where
      one : (b : Bool) (m n : ℕ) → m ≡ n * v → cond b v 0 + m ≡ (cond b 1 0 + n) * v
      one true m n e = omega arith
      one false m n e = omega arith

  all_starts : (now : ℕ) (g : Key) (ss : List ℕ) → Covers g ss → sum_map (λ k. late_starts k w now g ss) ks ≡ closed now ss
  unfolding closed
  all_starts now g [] h = sum_map-zero ks
  all_starts now g (s ∷ ss) h =
      let parts = each_parts _ s ss h in
      let v = cond (is_open w now s) 0 1 in
      sum_map-add (λ (k : WindowKey). cond (eq_by_cmp by_window k (g, s)) v 0) (λ k. late_starts k w now g ss) ks
      ∙ ap₂ (λ a b. a + b) (scaled_key g s v ks ∙ ap (λ n. n * v) parts.0 ∙ one_time v) (all_starts now g ss parts.1)
    where
      one_time : (v : ℕ) → 1 * v ≡ v
      one_time v = omega arith

  abbrev pub CoversItem : Option StreamItem → Type 0
  CoversItem None = Unit {0}
  CoversItem (Some y) = (g : Key) → y.key ≡ Some g → Covers g (windows w y.time)

  by_group : (old : Option ℕ) (counts : _) (time : ℕ) (h : Option Key) → ((g : Key) → h ≡ Some g → Covers g (windows w time)) → sum_map (λ k. late_of_group k w old time h) ks ≡ (count_group w old counts time h).late
  by_group old counts time None c = sum_map-zero ks
  by_group old counts time (Some g) c =
      let now = greater old time in
      all_starts now g (windows w time) (c g refl) ∙ sym (late_fold now g (record { time = Some now; counts = counts; late = 0; changes = time_changes old now }) (windows w time) ∙ zero_sum _)
    where
      zero_sum : (n : ℕ) → 0 + n ≡ n
      zero_sum n = omega arith

  pub by_item : (old : Option ℕ) (counts : _) (item : Option StreamItem) → CoversItem item → sum_map (λ k. late_of_item k w old item) ks ≡ (count_item w old counts item).late
  by_item old counts None c = sum_map-zero ks
  by_item old counts (Some y) c = by_group old counts y.time y.key c

-- ---- the run, by nodes
module _ (rules : Rules) (p : Plan) where
  -- the machine that counts as late what one node drops
  abbrev of_node : ℕ → Kind → Machine TaskId Place Store Item
  of_node n k = record (machine rules p) {
    step = λ u st q x.
        let a : Arrival = arrival p q x in
        record (step rules p u st q x) { late = (counted_at a (items_from a (λ m. None) 0 p.kinds) st n k).late };
  }

  over_kinds : (TaskId → Store) → List (Taken TaskId Place Item) → ℕ → List Kind → ℕ
  over_kinds stores ts n [] = 0
  over_kinds stores ts n (k ∷ ks) = late_all (of_node n k) stores ts + over_kinds stores ts (suc n) ks

  none_over : (stores : TaskId → Store) (n : ℕ) (ks : List Kind) → over_kinds stores [] n ks ≡ 0
  unfolding over_kinds
  none_over stores n [] = refl
  none_over stores n (k ∷ ks) = ap (λ m. 0 + m) (none_over stores (suc n) ks)

  abbrev next_stores : (TaskId → Store) → Taken TaskId Place Item → TaskId → Store
  next_stores stores t u = cond (same_task u ((machine rules p).reader t.place)) (step rules p ((machine rules p).reader t.place) (stores ((machine rules p).reader t.place)) t.place t.item).store (stores u)

  one_over : (stores : TaskId → Store) (t : Taken TaskId Place Item) (ts : List (Taken TaskId Place Item)) (n : ℕ) (ks : List Kind) →
      let a : Arrival = arrival p t.place t.item in
      over_kinds stores (t ∷ ts) n ks ≡ late_over (counted_at a (items_from a (λ m. None) 0 p.kinds) (stores ((machine rules p).reader t.place))) n ks + over_kinds (next_stores stores t) ts n ks
  unfolding over_kinds
  one_over stores t ts n [] = refl
  one_over stores t ts n (k ∷ ks) = let rest = one_over stores t ts (suc n) ks in omega arith

  by_nodes : (stores : TaskId → Store) (ts : List (Taken TaskId Place Item)) → late_all (machine rules p) stores ts ≡ over_kinds stores ts 0 p.kinds
  by_nodes stores [] = sym (none_over stores 0 p.kinds)
  by_nodes stores (t ∷ ts) =
      let a : Arrival = arrival p t.place t.item in
      ap (λ m. late_over (counted_at a (items_from a (λ m. None) 0 p.kinds) (stores ((machine rules p).reader t.place))) 0 p.kinds + m) (by_nodes (next_stores stores t) ts) ∙ sym (one_over stores t ts 0 p.kinds)

  module _ (fits : Fits p) (n f : ℕ) (by : Option (List ℕ)) (w : Window) (through : Bool) (stands : Stands_at n (Windowed f by w through) 0 p.kinds) (any : WindowKey) (ks : List WindowKey) where
    abbrev CoversStep : Taken TaskId Place Item → Type 0
    CoversStep t = CoversItem w ks (brought rules p fits n f by w through stands any t)

    pub node_windows : (stores : TaskId → Store) (ts : List (Taken TaskId Place Item)) → Each CoversStep ts → sum_map (λ k. late_all (counting rules p n k) stores ts) ks ≡ late_all (of_node n (Windowed f by w through)) stores ts
    node_windows stores [] h = sum_map-zero ks
    node_windows stores (t ∷ ts) h =
        let parts = each_parts CoversStep t ts h in
        let a : Arrival = arrival p t.place t.item in
        let items = items_from a (λ m. None) 0 p.kinds in
        let r = (machine rules p).reader t.place in
        sum_map-add (λ k. late_at k n (stores r) a items (kind_at p n)) (λ k. late_all (counting rules p n k) (next_stores stores t) ts) ks
        ∙ ap₂ (λ c d. c + d)
        (sum_map-same _ _ ks (λ k. ap (late_at k n (stores r) a items) (kind_is rules p fits n f by w through stands any)) ∙ by_item w ks ((stores r).times n) ((stores r).counts n) (brought rules p fits n f by w through stands any t) parts.0)
        (node_windows (next_stores stores t) ts parts.1)

-- a node that is no windowed count drops nothing
none_late : (rules : Rules) (p : Plan) (n : ℕ) (k : Kind) → ((a : Arrival) (items : ℕ → Option StreamItem) (st : Store) → (counted_at a items st n k).late ≡ 0) →
    (stores : TaskId → Store) (ts : List (Taken TaskId Place Item)) → late_all (of_node rules p n k) stores ts ≡ 0
none_late rules p n k none stores [] = refl
none_late rules p n k none stores (t ∷ ts) =
    let a : Arrival = arrival p t.place t.item in
    ap₂ (λ c d. c + d) (none a (items_from a (λ m. None) 0 p.kinds) (stores ((machine rules p).reader t.place))) (none_late rules p n k none (next_stores rules p stores t) ts)

module _ (rules : Rules) (p : Plan) (fits : Fits p) (records : List Input) (schedule : List (Option TaskId × Place)) (drained : IsDrained (state_of rules p records schedule)) where
  abbrev st : State
  st = state_of rules p records schedule

  module _ (n f : ℕ) (by : Option (List ℕ)) (w : Window) (through : Bool) (stands : Stands_at n (Windowed f by w through) 0 p.kinds) (within : f < length p.kinds) (before : f < n) where
    abbrev rows : List (WindowKey × Row)
    rows = fin.entries ((query p records).windows n)

    abbrev shares : WindowKey → List (Taken TaskId Place Item) → ℕ
    shares k ts = all_shares rules p fits n f by w through stands k ts

    -- the query has each window of which an item came
    asked : (k : WindowKey) → 0 < shares k st.taken → sum_map (λ (c : WindowKey). cond (eq_by_cmp by_window c k) 1 0) (map (λ e. e.0) rows) ≡ 1
    asked k lt =
        let is = query_is rules p fits records schedule n f w within before drained k by through stands in
        let total = shares_are rules p fits records schedule n f w within before drained k by through stands in
        let there = ap (λ m. fin.get ((query p records).windows n) k) total in
        once_counted k rows (fin.entries_sorted ((query p records).windows n))
        (ap is_some (sym (fin.get-entries ((query p records).windows n) k) ∙ is ∙ ap (λ m. option_map (agg_row true) (counted m 0)) (sym total)) ∙ some_row (shares k st.taken) lt)
      where
        some_row : (m : ℕ) → 0 < m → is_some (option_map (agg_row true) (counted m 0)) ≡ true
        some_row zero lt = absurd (omega arith)
        some_row (suc m) lt = refl

    each_start : (g : Key) (all ss : List ℕ) → ((k : WindowKey) → starts_of k g ss ≤ starts_of k g all) → ((k : WindowKey) → starts_of k g all ≤ shares k st.taken) → Covers w (map (λ e. e.0) rows) g ss
    each_start g all [] le most = each_nothing _
    each_start g all (s ∷ ss) le most =
        let k : WindowKey = (g, s) in
        let itself : eq_by_cmp by_window k k ≡ true = ap is_eq (tied_itself window_total k) in
        let one : starts_of k g (s ∷ ss) ≡ 1 + starts_of k g ss = ap (λ b. cond b 1 0 + starts_of k g ss) itself in
        let here = le k in
        let there = most k in
        each_first _ s ss (asked k (omega arith)) (each_start g all ss (λ c. let more = le c in omega arith) most)

    covers_item : (i : Option StreamItem) → ((k : WindowKey) → own_windows k w i ≤ shares k st.taken) → CoversItem w (map (λ e. e.0) rows) i
    covers_item None most = tt
    covers_item (Some y) most = λ g e.
        each_start g (windows w y.time) (windows w y.time) (λ k. omega arith) (λ k. subst (λ h. group_windows k w h y.time ≤ shares k st.taken) e (most k))

    each_step : (any : WindowKey) (ts : List (Taken TaskId Place Item)) → ((k : WindowKey) → shares k ts ≤ shares k st.taken) → Each (λ t. CoversItem w (map (λ e. e.0) rows) (brought rules p fits n f by w through stands any t)) ts
    each_step any [] le = each_nothing _
    each_step any (t ∷ ts) le = each_first _ t ts (covers_item (brought rules p fits n f by w through stands any t) (λ k. let more = le k in omega arith)) (each_step any ts (λ k. let more = le k in omega arith))

    windows_sum : (ks : List WindowKey) → late_of_windows rules p n st.taken ks ≡ sum_map (λ k. late_pairs rules p n k st.taken) ks
    windows_sum [] = refl
    windows_sum (k ∷ ks) = ap (λ m. late_pairs rules p n k st.taken + m) (windows_sum ks)

    window_node : late_of_windows rules p n st.taken (fin.keys ((query p records).windows n)) ≡ late_all (of_node rules p n (Windowed f by w through)) (machine rules p).start st.taken
    window_node =
        let any : WindowKey = ([], 0) in
        windows_sum (fin.keys ((query p records).windows n))
        ∙ node_windows rules p fits n f by w through stands any (map (λ e. e.0) rows) (machine rules p).start st.taken (each_step any st.taken (λ k. omega arith))

  node_late : (n : ℕ) (k : Kind) → Stands_at n k 0 p.kinds → cond (is_windowed k) (late_of_windows rules p n st.taken (fin.keys ((query p records).windows n))) 0 ≡ late_all (of_node rules p n k) (machine rules p).start st.taken
  node_late n (Windowed f by w through) s =
      let before = (each_at p 0 p.kinds n (Windowed f by w through) fits s).0 in
      let within : f < 0 + length p.kinds = stands_within 0 p.kinds n (Windowed f by w through) s before in
      window_node n f by w through s (omega arith) before
  node_late n (StreamSource t) s = sym (none_late rules p n (StreamSource t) (λ a items st. refl) (machine rules p).start st.taken)
  node_late n (TableSource t) s = sym (none_late rules p n (TableSource t) (λ a items st. refl) (machine rules p).start st.taken)
  node_late n (StreamFilter g x) s = sym (none_late rules p n (StreamFilter g x) (λ a items st. refl) (machine rules p).start st.taken)
  node_late n (TableFilter g x) s = sym (none_late rules p n (TableFilter g x) (λ a items st. refl) (machine rules p).start st.taken)
  node_late n (StreamMap g x) s = sym (none_late rules p n (StreamMap g x) (λ a items st. refl) (machine rules p).start st.taken)
  node_late n (TableMap g x) s = sym (none_late rules p n (TableMap g x) (λ a items st. refl) (machine rules p).start st.taken)
  node_late n (KeySelected g x) s = sym (none_late rules p n (KeySelected g x) (λ a items st. refl) (machine rules p).start st.taken)
  node_late n (StreamAggregate g by field through) s = sym (none_late rules p n (StreamAggregate g by field through) (λ a items st. refl) (machine rules p).start st.taken)
  node_late n (TableAggregate g by field) s = sym (none_late rules p n (TableAggregate g by field) (λ a items st. refl) (machine rules p).start st.taken)
  node_late n (KeyJoin l r kind set) s = sym (none_late rules p n (KeyJoin l r kind set) (λ a items st. refl) (machine rules p).start st.taken)
  node_late n (ForeignKeyJoin l r fk kind set) s = sym (none_late rules p n (ForeignKeyJoin l r fk kind set) (λ a items st. refl) (machine rules p).start st.taken)

  nodes_late : (before ks : List Kind) → p.kinds ≡ before ++ ks → late_of_nodes rules p records st.taken (length before) ks ≡ over_kinds rules p (machine rules p).start st.taken (length before) ks
  unfolding over_kinds
  nodes_late before [] all = refl
  nodes_late before (k ∷ ks) all =
      let here : Stands_at (length before) k 0 p.kinds = subst (Stands_at (length before) k 0) (sym all) (subst (λ m. Stands_at m k 0 (before ++ k ∷ ks)) (omega arith) (stands_after 0 before k ks)) in
      let long : length (before ++ k ∷ []) ≡ suc (length before) = omega (arith, length-append before (k ∷ [])) in
      ap₂ (λ c d. c + d) (node_late (length before) k here)
      (subst (λ m. late_of_nodes rules p records st.taken m ks ≡ over_kinds rules p (machine rules p).start st.taken m ks) long (nodes_late (before ++ k ∷ []) ks (all ∙ sym (append_assoc before (k ∷ []) ks))))

  pub late_is_all : late_of_nodes rules p records st.taken 0 p.kinds ≡ st.late
  late_is_all = nodes_late [] p.kinds refl ∙ sym (by_nodes rules p (machine rules p).start st.taken) ∙ sym (Follows-run (machine rules p) (names rules p) (inputs_of rules p records) schedule).late
