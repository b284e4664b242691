-- A windowed count: of each window, what is stored, what waits and what was late are together what was passed on.
use Rattle.std.proofs.Common.{◌≡◌, ℕ, zero, suc, ◌+◌, ◌<◌, Bool, true, false, cond, List, length, [], ◌∷◌, ◌++◌, Option, Some, None, fold, refl, sym, ap, ap₂, subst, ◌∙◌, arith}
use Rattle.std.specs.Prelude.{option_map}
use Rattle.ks_query.specs.Aggregates.{agg_row}
use Rattle.ks_query.specs.Query.{query}
use Rattle.ks_def_tasks.specs.Rest.{IsDrained}
use Rattle.std.specs.Ordering.{eq_by_cmp}
use Rattle.ks_record.specs.declared.record.TaskId.{TaskId}
use Rattle.ks_record.specs.Parts.{same_task}
use Rattle.ks_wire.specs.declared.values.Agg.{Agg}
use Rattle.ks_plan.specs.Plan.{Plan, Window}
use Rattle.ks_plan.specs.Plan.Kind.{Windowed}
use Rattle.ks_plan.specs.Layout.{kind_at}
use Rattle.ks_def_runs.specs.FinMap as fin
use Rattle.ks_def_runs.specs.FinMap.{FinMap}
use Rattle.ks_def_runs.proofs.Tables.{equal}
use Rattle.ks_query.specs.Streams.{Key, Input, StreamItem, group_key, with_some}
use Rattle.ks_query.specs.Windows.{WindowKey, by_window, windows}
use Rattle.ks_query.specs.Grace.{is_open}
use Rattle.ks_query.specs.Aggregates.{stream_add}
use Rattle.ks_def_runs.specs.Run.{Machine, HasNames, Taken, RunState, Follows, local, take_first, initial, run}
use Rattle.ks_def_runs.proofs.Runs.{kept_by_run, late_all-append, Follows-initial, Follows-step, Follows-run}
use Rattle.ks_def_runs.proofs.Sums.{sum_map, sum_map-append, sum_map-same}
use Rattle.ks_def_tasks.specs.Messages.{Place, Message, Item, Store, Rules}
use Rattle.ks_def_tasks.specs.Messages.Message.{Given, Keyed, Moved, Asked, Answered, Kept, KeptCount, KeptTime, KeptHash}
use Rattle.ks_def_tasks.specs.Windowed.{Counted, count_window, count_group, count_item, greater, time_changes}
use Rattle.ks_def_tasks.specs.Step.{Arrival, item_keyed, items_from, counted_at}
use Rattle.ks_def_tasks.specs.Tasks.{arrival, machine, step, inputs_of, is_changelog}
use Rattle.ks_def_tasks.proofs.Names.{names, same_task-is, same_place-is}
use Rattle.ks_law_quiescence.specs.Groups.{place_of}
use Rattle.ks_law_quiescence.specs.States.{State, state_of, home_task}
use Rattle.ks_law_quiescence.specs.Streams.{item_of_step, passed_on, takers, all_waiting}
use Rattle.ks_law_topology.specs.Taken.{messages}
use Rattle.ks_law_quiescence.specs.Windows.{late_starts, late_of_group, late_of_item, late_at, counting, late_pairs, pairs_of_keyed, pairs_among, pairs_in, count_of}
use Rattle.ks_law_quiescence.proofs.Counted.{counted, add_counted}
use Rattle.ks_law_topology.proofs.Each.{Each, each_parts}
use Rattle.ks_law_topology.proofs.Fits.{Fits, each_at}
use Rattle.ks_law_topology.proofs.Mixed.{Stands_at}
use Rattle.ks_law_quiescence.proofs.Passing as passing
use Rattle.ks_law_topology.proofs.Placed.{Placed, FitsAt, placed_step, placed_run}
use Rattle.ks_law_quiescence.proofs.Received.{no_inputs}
use Rattle.ks_law_quiescence.proofs.StreamsWhole as streams
use Rattle.ks_law_quiescence.proofs.WindowGroups.{window_total, window_same, starts_at, group_windows, own_windows, item_windows, brought, share_of_step, all_shares, kind_is, elsewhere}
use Rattle.ks_law_quiescence.proofs.WindowsRest.{share_in, step_sent, at_place_run, passed_sum, nothing_waits, query_is}

module _ (k : WindowKey) (w : Window) where
  abbrev open_starts : ℕ → Key → List ℕ → ℕ
  open_starts now g [] = 0
  open_starts now g (s ∷ ss) = cond (eq_by_cmp by_window k (g, s)) (cond (is_open w now s) 1 0) 0 + open_starts now g ss

  open_or_late : (now : ℕ) (g : Key) (ss : List ℕ) → open_starts now g ss + late_starts k w now g ss ≡ starts_at k w g ss
  open_or_late now g [] = refl
  open_or_late now g (s ∷ ss) = let rest = open_or_late now g ss in one (eq_by_cmp by_window k (g, s)) (is_open w now s) rest
    where
      one : (a b : Bool) → open_starts now g ss + late_starts k w now g ss ≡ starts_at k w g ss →
          (cond a (cond b 1 0) 0 + open_starts now g ss) + (cond a (cond b 0 1) 0 + late_starts k w now g ss) ≡ cond a 1 0 + starts_at k w g ss
      one true true e = omega arith
      one true false e = omega arith
      one false b e = omega arith

  one_window : (now : ℕ) (g : Key) (c : Counted) (s x : ℕ) → fin.get c.counts k ≡ counted x 0 → fin.get (count_window w now g c s).counts k ≡ counted (x + cond (eq_by_cmp by_window k (g, s)) (cond (is_open w now s) 1 0) 0) 0
  one_window now g c s x e =
      let new = stream_add None (fin.get c.counts (g, s)) [] in
      elim (is_open w now s) as (λ b.
      fin.get (cond b (record c { counts = fin.insert c.counts (g, s) new; changes = c.changes ++ KeptCount (g, s) new ∷ [] }) (record c { late = c.late + 1 })).counts k ≡ counted (x + cond (eq_by_cmp by_window k (g, s)) (cond b 1 0) 0) 0) [
        | true ↦ fin.get-insert window_total c.counts (g, s) new k
            ∙ elim (eq_by_cmp by_window k (g, s)) as (λ b. eq_by_cmp by_window k (g, s) ≡ b → cond b (Some new) (fin.get c.counts k) ≡ counted (x + cond b 1 0) 0) [
              | true ↦ λ b. ap (λ v. Some (stream_add None (fin.get c.counts v) [])) (sym (window_same k (g, s) (equal _ b))) ∙ ap (λ v. Some (stream_add None v [])) e ∙ add_counted None x 0 [] (λ z. refl)
              | false ↦ λ b. e ∙ ap₂ counted (omega arith) refl
            ] refl
        | false ↦ e ∙ elim (eq_by_cmp by_window k (g, s)) as (λ b. counted x 0 ≡ counted (x + cond b 0 0) 0) [ true ↦ ap₂ counted (omega arith) refl | false ↦ ap₂ counted (omega arith) refl ]
      ]

  windows_counted : (now : ℕ) (g : Key) (c : Counted) (ss : List ℕ) (x : ℕ) → fin.get c.counts k ≡ counted x 0 → fin.get (fold (count_window w now g) c ss).counts k ≡ counted (x + open_starts now g ss) 0
  windows_counted now g c [] x e = e ∙ ap₂ counted (omega arith) refl
  windows_counted now g c (s ∷ ss) x e =
      windows_counted now g (count_window w now g c s) ss (x + cond (eq_by_cmp by_window k (g, s)) (cond (is_open w now s) 1 0) 0) (one_window now g c s x e) ∙ ap₂ counted (omega arith) refl

  -- an item at a windowed count: its windows are counted, or late
  pub record Taken_in (old : Option ℕ) (counts : FinMap by_window Agg) (item : Option StreamItem) (x : ℕ) : Type 0 where
    pub opens : ℕ
    pub counts_are : fin.get (count_item w old counts item).counts k ≡ counted (x + opens) 0
    pub all : opens + late_of_item k w old item ≡ own_windows k w item

  by_group : (old : Option ℕ) (counts : FinMap by_window Agg) (time : ℕ) (h : Option Key) (x : ℕ) → fin.get counts k ≡ counted x 0 →
      (opens : ℕ) × (fin.get (count_group w old counts time h).counts k ≡ counted (x + opens) 0) × (opens + late_of_group k w old time h ≡ group_windows k w h time)
  by_group old counts time None x e = (0, e ∙ ap₂ counted (omega arith) refl, refl)
  by_group old counts time (Some g) x e = (
    open_starts (greater old time) g (windows w time),
    windows_counted (greater old time) g (record { time = Some (greater old time); counts = counts; late = 0; changes = time_changes old (greater old time) }) (windows w time) x e,
    open_or_late (greater old time) g (windows w time),
  )

  pub taken_in : (old : Option ℕ) (counts : FinMap by_window Agg) (item : Option StreamItem) (x : ℕ) → fin.get counts k ≡ counted x 0 → Taken_in old counts item x
  taken_in old counts None x e = record { opens = 0; counts_are = e ∙ ap₂ counted (omega arith) refl; all = refl }
  taken_in old counts (Some y) x e = let g = by_group old counts y.time y.key x e in record { opens = g.0; counts_are = g.1; all = g.2 }

module _ (rules : Rules) (p : Plan) (fits : Fits p) (n f : ℕ) (by : Option (List ℕ)) (w : Window) (through : Bool) (stands : Stands_at n (Windowed f by w through) 0 p.kinds) (k : WindowKey) (records : List Input) where
  abbrev home : TaskId
  home = home_task rules p n k.0

  abbrev lates : Machine TaskId Place Store Item
  lates = counting rules p n k

  lates_names : HasNames lates
  lates_names = record { tasks = same_task-is; places = same_place-is }

  same_store : (u : TaskId) (store : Store) (ts : List (Taken TaskId Place Item)) → (local lates u store ts).store ≡ (local (machine rules p) u store ts).store
  same_store u store [] = refl
  same_store u store (t ∷ ts) =
      let o = step rules p u store t.place t.item in
      elim (same_task u ((machine rules p).reader t.place)) as (λ b.
      (cond b (record { store = (local lates u o.store ts).store; made = o.made ++ (local lates u o.store ts).made; late = (lates.step u store t.place t.item).late + (local lates u o.store ts).late }) (local lates u store ts)).store
      ≡ (cond b (record { store = (local (machine rules p) u o.store ts).store; made = o.made ++ (local (machine rules p) u o.store ts).made; late = o.late + (local (machine rules p) u o.store ts).late }) (local (machine rules p) u store ts)).store) [
        | true ↦ same_store u o.store ts
        | false ↦ same_store u store ts
      ]

  abbrev late_of_step : Store → Taken TaskId Place Item → ℕ
  late_of_step st t = late_of_item k w (st.times n) (brought rules p fits n f by w through stands k t)

  late_push : (st : RunState TaskId Place Store Item) → Follows (machine rules p) (inputs_of rules p records) st → (t : Taken TaskId Place Item) →
      late_pairs rules p n k (st.taken ++ t ∷ []) ≡ late_pairs rules p n k st.taken + late_of_step (st.stores ((machine rules p).reader t.place)) t
  late_push st follows t =
      let r = (machine rules p).reader t.place in
      let a : Arrival = arrival p t.place t.item in
      let items = items_from a (λ m. None) 0 p.kinds in
      let store = (local lates r ((machine rules p).start r) st.taken).store in
      let is : store ≡ st.stores r = same_store r ((machine rules p).start r) st.taken ∙ sym (follows.stores r) in
      late_all-append lates lates_names (machine rules p).start st.taken (t ∷ [])
      ∙ ap (λ m. late_pairs rules p n k st.taken + m) (sum_zero _ ∙ ap (λ s. late_at k n s a items (kind_at p n)) is ∙ ap (late_at k n (st.stores r) a items) (kind_is rules p fits n f by w through stands k))
    where
      sum_zero : (m : ℕ) → m + 0 ≡ m
      sum_zero m = omega arith

  pub record Whole (st : RunState TaskId Place Store Item) : Type 0 where
    pub placed : Placed rules p st
    pub follows : Follows (machine rules p) (inputs_of rules p records) st
    pub count : ℕ
    pub stored : fin.get ((st.stores home).counts n) k ≡ counted count 0
    pub others : (u : TaskId) → same_task u home ≡ false → fin.get ((st.stores u).counts n) k ≡ None
    pub sums : count + late_pairs rules p n k st.taken ≡ all_shares rules p fits n f by w through stands k st.taken

  abbrev then_at : RunState TaskId Place Store Item → Place → Item → Bool → Option Agg
  then_at st q x b = fin.get ((cond b (step rules p ((machine rules p).reader q) (st.stores ((machine rules p).reader q)) q x).store (st.stores home)).counts n) k

  whole_taken : (st : RunState TaskId Place Store Item) (s : Option TaskId) (q : Place) (x : Item) (rest : List Item) → st.waiting s q ≡ x ∷ rest → Whole st → Whole (take_first (machine rules p) st s q (x ∷ rest))
  whole_taken st s q x rest e h = elim (same_task home ((machine rules p).reader q)) as (λ b. same_task home ((machine rules p).reader q) ≡ b → Whole (take_first (machine rules p) st s q (x ∷ rest))) [
    | true ↦ here
    | false ↦ away
  ] refl
    where
      r : TaskId
      r = (machine rules p).reader q

      now : Taken TaskId Place Item
      now = record { sender = s; place = q; item = x }

      a : Arrival
      a = arrival p q x

      placed : Placed rules p (take_first (machine rules p) st s q (x ∷ rest))
      placed = placed_step rules p fits st s q (x ∷ rest) e h.placed

      follows : Follows (machine rules p) (inputs_of rules p records) (take_first (machine rules p) st s q (x ∷ rest))
      follows = Follows-step (machine rules p) (names rules p) (inputs_of rules p records) st s q (x ∷ rest) e h.follows

      share : ℕ
      share = share_of_step rules p fits n f by w through stands k now

      shares : all_shares rules p fits n f by w through stands k (st.taken ++ now ∷ []) ≡ all_shares rules p fits n f by w through stands k st.taken + share
      shares = sum_map-append (share_of_step rules p fits n f by w through stands k) st.taken (now ∷ []) ∙ plus_zero _ _
        where
          plus_zero : (c d : ℕ) → c + (d + 0) ≡ c + d
          plus_zero c d = omega arith

      -- a task that isn't the reader stays
      other_task : (u : TaskId) → same_task u r ≡ false → fin.get ((cond (same_task u r) (step rules p r (st.stores r) q x).store (st.stores u)).counts n) k ≡ fin.get ((st.stores u).counts n) k
      other_task u e = ap (λ c. fin.get ((cond c (step rules p r (st.stores r) q x).store (st.stores u)).counts n) k) e

      turned_task : (u : TaskId) → same_task u home ≡ false → same_task home r ≡ true → same_task u r ≡ false
      turned_task u off b = ap (same_task u) (sym ((same_task-is home r).0 b)) ∙ off

      -- nothing of the group comes to another task
      gone : fin.get ((st.stores r).counts n) k ≡ None → share ≡ 0 → fin.get ((step rules p r (st.stores r) q x).store.counts n) k ≡ None
      gone e none =
          let took = taken_in k w ((st.stores r).times n) ((st.stores r).counts n) (brought rules p fits n f by w through stands k now) 0 e in
          let all = took.all in
          let zero_opens : 0 + took.opens ≡ 0 = omega arith in
          ap (λ c. fin.get (counted_at a (items_from a (λ m. None) 0 p.kinds) (st.stores r) n c).counts k) (kind_is rules p fits n f by w through stands k) ∙ took.counts_are ∙ ap (λ m. counted m 0) zero_opens

      here : same_task home r ≡ true → Whole (take_first (machine rules p) st s q (x ∷ rest))
      here b =
          let is : home ≡ r = (same_task-is home r).0 b in
          let old : fin.get ((st.stores r).counts n) k ≡ counted h.count 0 = ap (λ v. fin.get ((st.stores v).counts n) k) (sym is) ∙ h.stored in
          let took = taken_in k w ((st.stores r).times n) ((st.stores r).counts n) (brought rules p fits n f by w through stands k now) h.count old in
          let late = late_push st h.follows now in
          let sums = h.sums in
          let all = took.all in
          record {
            placed = placed;
            follows = follows;
            count = h.count + took.opens;
            stored = ap (then_at st q x) b ∙ ap (λ c. fin.get (counted_at a (items_from a (λ m. None) 0 p.kinds) (st.stores r) n c).counts k) (kind_is rules p fits n f by w through stands k) ∙ took.counts_are;
            others = λ u off. other_task u (turned_task u off b) ∙ h.others u off;
            sums = omega (arith, shares);
          }

      away : same_task home r ≡ false → Whole (take_first (machine rules p) st s q (x ∷ rest))
      away b =
          let fit : is_changelog q.topic ≡ false → FitsAt rules p q x.message = λ list. (each_parts (FitsAt rules p q) x.message (messages rest) (subst (λ l. Each (FitsAt rules p q) (messages l)) e (h.placed.waiting s q list))).0 in
          let none = elsewhere rules p fits n f by w through stands k through refl q x fit b s in
          let took = taken_in k w ((st.stores r).times n) fin.empty (brought rules p fits n f by w through stands k now) 0 (fin.get-empty by_window k) in
          let late = late_push st h.follows now in
          let sums = h.sums in
          let all = took.all in
          record {
            placed = placed;
            follows = follows;
            count = h.count;
            stored = ap (then_at st q x) b ∙ h.stored;
            others = λ u off. elim (same_task u r) as (λ c. same_task u r ≡ c → fin.get ((cond c (step rules p r (st.stores r) q x).store (st.stores u)).counts n) k ≡ None) [
              | true ↦ λ c. gone (h.others r (ap (λ v. same_task v home) (sym ((same_task-is u r).0 c)) ∙ off)) none
              | false ↦ λ c. h.others u off
            ] refl;
            sums = omega (arith, shares);
          }

  whole_step_kept : (st : RunState TaskId Place Store Item) (s : Option TaskId) (q : Place) (xs : List Item) → st.waiting s q ≡ xs → Whole st → Whole (take_first (machine rules p) st s q xs)
  whole_step_kept st s q [] e h = h
  whole_step_kept st s q (x ∷ rest) e h = whole_taken st s q x rest e h

  pub whole_run : (schedule : List (Option TaskId × Place)) → Whole (run (machine rules p) (inputs_of rules p records) schedule)
  whole_run schedule = kept_by_run (machine rules p) Whole (λ st c h. whole_step_kept st c.0 c.1 (st.waiting c.0 c.1) refl h) (initial (machine rules p) (inputs_of rules p records))
      (record { placed = placed_run rules p fits records []; follows = Follows-initial (machine rules p) (names rules p) (inputs_of rules p records); count = 0; stored = fin.get-empty by_window k; others = λ u off. fin.get-empty by_window k; sums = refl }) schedule

-- ---- in the words of the law
counted-is : (x : ℕ) → counted x 0 ≡ count_of x
counted-is zero = refl
counted-is (suc x) = refl

module _ (k : WindowKey) (w : Window) where
  keyed-is : (time : ℕ) (m : Message) → own_windows k w (item_keyed time (Some m)) ≡ pairs_of_keyed k w time m
  keyed-is time (Keyed g row) = refl
  keyed-is time (Given c v) = refl
  keyed-is time (Moved c d) = refl
  keyed-is time (Asked b c s) = refl
  keyed-is time (Answered c r) = refl
  keyed-is time (Kept c v) = refl
  keyed-is time (KeptCount c v) = refl
  keyed-is time (KeptTime c) = refl
  keyed-is time (KeptHash b c h) = refl

  among-is : (xs : List Item) → sum_map (λ x. own_windows k w (item_keyed x.time (Some x.message))) xs ≡ pairs_among k w xs
  among-is [] = refl
  among-is (x ∷ xs) = ap₂ (λ a b. a + b) (keyed-is x.time x.message) (among-is xs)

  pub passed-is : (p : Plan) (f : ℕ) (by : Option (List ℕ)) (ts : List (Taken TaskId Place Item)) → sum_map (λ t. item_windows k w by (item_of_step p f t)) ts ≡ pairs_in k w by (passed_on p f ts)
  passed-is p f by [] = refl
  passed-is p f by (t ∷ ts) = one (item_of_step p f t) (passed-is p f by ts)
    where
      one : (i : Option StreamItem) → sum_map (λ t. item_windows k w by (item_of_step p f t)) ts ≡ pairs_in k w by (passed_on p f ts) →
          item_windows k w by i + sum_map (λ t. item_windows k w by (item_of_step p f t)) ts ≡ pairs_in k w by (with_some i (passed_on p f ts))
      one None e = zero_sum _ ∙ e
        where
          zero_sum : (m : ℕ) → 0 + m ≡ m
          zero_sum m = omega arith
      one (Some y) e = ap (λ m. group_windows k w (group_key by y) y.time + m) e

module _ (rules : Rules) (p : Plan) (fits : Fits p) (records : List Input) (schedule : List (Option TaskId × Place)) (n f : ℕ) (w : Window) (k : WindowKey) where
  abbrev st : State
  st = state_of rules p records schedule

  pub record IsWhole (by : Option (List ℕ)) : Type 0 where
    pub count : ℕ
    pub stored : (u : TaskId) → fin.get ((st.stores u).counts n) k ≡ cond (same_task u (home_task rules p n k.0)) (count_of count) None
    pub whole : count + pairs_among k w (all_waiting rules p st (place_of rules p n k.0)) + late_pairs rules p n k st.taken ≡ pairs_in k w by (passed_on p f st.taken)

  in_tasks : (count : ℕ) → fin.get ((st.stores (home_task rules p n k.0)).counts n) k ≡ counted count 0 → ((u : TaskId) → same_task u (home_task rules p n k.0) ≡ false → fin.get ((st.stores u).counts n) k ≡ None) →
      (u : TaskId) → fin.get ((st.stores u).counts n) k ≡ cond (same_task u (home_task rules p n k.0)) (count_of count) None
  in_tasks count here others u = elim (same_task u (home_task rules p n k.0)) as (λ b. same_task u (home_task rules p n k.0) ≡ b → fin.get ((st.stores u).counts n) k ≡ cond b (count_of count) None) [
    | true ↦ λ b. ap (λ v. fin.get ((st.stores v).counts n) k) ((same_task-is u (home_task rules p n k.0)).0 b) ∙ here ∙ counted-is count
    | false ↦ λ b. others u b
  ] refl

  through_whole : (by : Option (List ℕ)) → Stands_at n (Windowed f by w true) 0 p.kinds → IsWhole by
  through_whole by stands =
      let h = whole_run rules p fits n f by w true stands k records schedule in
      let q = place_of rules p n k.0 in
      let share : Item → ℕ = share_in rules p fits n f by w k in
      let sent = passing.taken_and_waiting rules p q (λ records. no_inputs rules p records n q.part) share (λ t. item_windows k w by (item_of_step p f t)) (step_sent rules p fits n f by w k stands) records st (Follows-run (machine rules p) (names rules p) (inputs_of rules p records) schedule) in
      let place = (at_place_run rules p fits n f by w k stands records schedule).sums in
      let waits = among-is k w (all_waiting rules p st q) in
      let passed = passed-is k w p f by st.taken in
      let sums = h.sums in
      record { count = h.count; stored = in_tasks h.count h.stored h.others; whole = omega arith }

  direct_whole : Stands_at n (Windowed f None w false) 0 p.kinds → IsWhole None
  direct_whole stands =
      let h = whole_run rules p fits n f None w false stands k records schedule in
      let q = place_of rules p n k.0 in
      let none : pairs_among k w (all_waiting rules p st q) ≡ 0 = ap (pairs_among k w) (streams.none_waits rules p fits records schedule n f k.0 (Windowed f None w false) stands (λ x items store olds news. refl) (takers rules p st.taken)) in
      let own : all_shares rules p fits n f None w false stands k st.taken ≡ pairs_in k w None (passed_on p f st.taken) = sum_map-same _ _ st.taken (λ t. own_item (item_of_step p f t)) ∙ passed-is k w p f None st.taken in
      let sums = h.sums in
      record { count = h.count; stored = in_tasks h.count h.stored h.others; whole = omega arith }
    where
      own_item : (i : Option StreamItem) → own_windows k w i ≡ item_windows k w None i
      own_item None = refl
      own_item (Some y) = refl

  pub window_whole : (by : Option (List ℕ)) (through : Bool) → Stands_at n (Windowed f by w through) 0 p.kinds → IsWhole by
  window_whole by true stands = through_whole by stands
  window_whole None false stands = direct_whole stands
  window_whole (Some name) false stands =
      let h = each_at p 0 p.kinds n (Windowed f (Some name) w false) fits stands in
      let none : Some name ≡ None = (h.2 refl).0 in
      cc

-- ---- at rest
module _ (rules : Rules) (p : Plan) (fits : Fits p) (records : List Input) (schedule : List (Option TaskId × Place)) (n f : ℕ) (w : Window) (within : f < length p.kinds) (before : f < n) (drained : IsDrained (state_of rules p records schedule)) (k : WindowKey) where
  abbrev end : State
  end = state_of rules p records schedule

  pub record IsExceeded : Type 0 where
    pub count : ℕ
    pub stored : (u : TaskId) → fin.get ((end.stores u).counts n) k ≡ cond (same_task u (home_task rules p n k.0)) (count_of count) None
    pub query_is : fin.get ((query p records).windows n) k ≡ option_map (agg_row true) (count_of (count + late_pairs rules p n k end.taken))

  pub window_exceeded : (by : Option (List ℕ)) (through : Bool) → Stands_at n (Windowed f by w through) 0 p.kinds → IsExceeded
  window_exceeded by through stands =
      let h = window_whole rules p fits records schedule n f w k by through stands in
      let none : pairs_among k w (all_waiting rules p end (place_of rules p n k.0)) ≡ 0 = ap (pairs_among k w) (nothing_waits rules p fits records schedule n f w within before drained k (takers rules p end.taken)) in
      let passed = passed-is k w p f by end.taken in
      let rest = passed_sum rules p fits records schedule n f w within before drained k by in
      let whole = h.whole in
      let total : sum_map (λ y. item_windows k w by (Some y)) ((query p records).items f) ≡ h.count + late_pairs rules p n k end.taken = omega arith in
      record {
        count = h.count;
        stored = h.stored;
        query_is = query_is rules p fits records schedule n f w within before drained k by through stands ∙ ap (λ m. option_map (agg_row true) (counted m 0)) total ∙ ap (option_map (agg_row true)) (counted-is _);
      }
