-- A stream aggregate without a repartition topic: its task stores what was passed on.
use Rattle.std.proofs.Common.{◌≡◌, ℕ, ◌+◌, Bool, true, false, cond, List, [], ◌∷◌, ◌++◌, get_or, Option, Some, None, refl, sym, ap, ap₂, subst, ◌∙◌, arith, ⊎_elim, inl}
use Rattle.std.specs.Prelude.{option_map, is_none}
use Rattle.std.specs.Ordering.{eq_by_cmp}
use Rattle.std.specs.FinMap.{slice_cmp-IsAntisymmetric, nat_cmp-IsAntisymmetric}
use Rattle.ks_record.specs.declared.record.TaskId.{TaskId}
use Rattle.ks_record.specs.Parts.{same_task}
use Rattle.ks_expr.specs.Eval.{Row}
use Rattle.ks_wire.specs.declared.values.Agg.{Agg}
use Rattle.ks_plan.specs.Plan.{Plan}
use Rattle.ks_plan.specs.Plan.Kind.{StreamAggregate}
use Rattle.ks_def_runs.specs.FinMap as fin
use Rattle.ks_def_runs.specs.Bytes.{by_bytes}
use Rattle.ks_def_runs.proofs.Tables.{equal}
use Rattle.ks_query.specs.Streams.{Key, Input, StreamItem}
use Rattle.ks_query.specs.Aggregates.{amount_in, stream_add}
use Rattle.ks_def_runs.specs.Run.{Taken, RunState, take_first, initial, run}
use Rattle.ks_def_runs.proofs.Runs.{kept_by_run}
use Rattle.ks_def_runs.proofs.Sums.{sum_map, sum_map-append}
use Rattle.ks_def_tasks.specs.Messages.{Place, Stored, agg_of, Item, Store, Rules}
use Rattle.ks_def_tasks.specs.Messages.Stored.{OfAgg}
use Rattle.ks_def_tasks.specs.Step.{Arrival, step_key, added, whole_step, items_from, olds_at}
use Rattle.ks_def_tasks.specs.Tasks.{arrival, machine, step, inputs_of, is_changelog}
use Rattle.ks_def_tasks.proofs.Names.{same_task-is}
use Rattle.ks_law_quiescence.specs.States.{home_task}
use Rattle.ks_law_quiescence.specs.Streams.{item_of_step}
use Rattle.ks_law_topology.specs.Taken.{messages}
use Rattle.ks_law_quiescence.proofs.Counted.{counted, add_counted}
use Rattle.ks_law_topology.proofs.Each.{Each, each_parts}
use Rattle.ks_law_topology.proofs.Fits.{Fits, Beside, own_keys}
use Rattle.ks_law_quiescence.proofs.Follow.{value_is}
use Rattle.ks_law_topology.proofs.Mixed.{Stands_at}
use Rattle.ks_law_topology.proofs.Placed.{Placed, FitsAt, FitsKey, fits_key, Owned, items_owned, placed_step, placed_run}
use Rattle.ks_law_quiescence.proofs.Received.{at_key, node_step, either_same}
use Rattle.ks_law_quiescence.proofs.Regrouped.{row_bits}
use Rattle.ks_law_quiescence.proofs.StreamGroups.{group_share, item_share, one_each, amount_each}
use Rattle.ks_law_topology.proofs.ItemKeys.{item_key}

module _ (rules : Rules) (p : Plan) (fits : Fits p) (n f : ℕ) (field : Option (List ℕ)) (stands : Stands_at n (StreamAggregate f None field false) 0 p.kinds) (beside : Beside p f n) (own : get_or (own_keys p.kinds) f false ≡ true) (g : Key) where
  abbrev stored_count : ℕ → ℕ → Option Stored
  stored_count x y = option_map (OfAgg (is_none field)) (counted x y)

  abbrev share : (Row → ℕ) → Taken TaskId Place Item → ℕ
  share w t = item_share g w None (item_of_step p f t)

  abbrev pub StoredAll : RunState TaskId Place Store Item → Type 0
  StoredAll st = fin.get ((st.stores (home_task rules p n g)).tables n) g ≡ stored_count (sum_map (share one_each) st.taken) (sum_map (share (amount_each field)) st.taken)

  agg_back : (w : Option Agg) → agg_of (option_map (OfAgg (is_none field)) w) ≡ w
  agg_back None = refl
  agg_back (Some a) = refl

  grouped_by : (row : Row) (k : Option Key) (old : Option Stored) (x y : ℕ) → old ≡ stored_count x y → (x ≡ 0 → y ≡ 0) →
      at_key k g (Some (OfAgg (is_none field) (stream_add field (agg_of old) row))) old ≡ stored_count (x + group_share g one_each row k) (y + group_share g (amount_each field) row k)
  grouped_by row None old x y e z = e ∙ ap₂ stored_count (omega arith) (omega arith)
  grouped_by row (Some h) old x y e z = elim (eq_by_cmp by_bytes g h) as (λ b. cond b (Some (OfAgg (is_none field) (stream_add field (agg_of old) row))) old ≡ stored_count (x + cond b 1 0) (y + cond b (row_bits (amount_in field row)) 0)) [
    | true ↦ ap (λ w. Some (OfAgg (is_none field) (stream_add field (agg_of w) row))) e ∙ ap (λ w. Some (OfAgg (is_none field) (stream_add field w row))) (agg_back (counted x y)) ∙ ap (option_map (OfAgg (is_none field))) (add_counted field x y row z)
    | false ↦ e ∙ ap₂ stored_count (omega arith) (omega arith)
  ]

  item_added : (item : Option StreamItem) (key : Option Key) → ((x : StreamItem) → item ≡ Some x → key ≡ x.key) → (old : Option Stored) (x y : ℕ) → old ≡ stored_count x y → (x ≡ 0 → y ≡ 0) →
      at_key key g (added field old item) old ≡ stored_count (x + item_share g one_each None item) (y + item_share g (amount_each field) None item)
  item_added None None h old x y e z = e ∙ ap₂ stored_count (omega arith) (omega arith)
  item_added None (Some k) h old x y e z = either_same (eq_by_cmp by_bytes g k) old ∙ e ∙ ap₂ stored_count (omega arith) (omega arith)
  item_added (Some i) key h old x y e z = ap (λ k. at_key k g (Some (OfAgg (is_none field) (stream_add field (agg_of old) i.row))) old) (h i refl) ∙ grouped_by i.row i.key old x y e z

  no_amount : (ts : List (Taken TaskId Place Item)) → sum_map (share one_each) ts ≡ 0 → sum_map (share (amount_each field)) ts ≡ 0
  no_amount [] e = refl
  no_amount (t ∷ ts) e =
      let rest = no_amount ts (omega arith) in
      let here = of_item (item_of_step p f t) (omega arith) in
      omega arith
    where
      of_key : (row : Row) (k : Option Key) → group_share g one_each row k ≡ 0 → group_share g (amount_each field) row k ≡ 0
      of_key row None e = refl
      of_key row (Some h) e = by_case (eq_by_cmp by_bytes g h) e
        where
          by_case : (b : Bool) → cond {A = ℕ} b 1 0 ≡ 0 → cond b (amount_each field row) 0 ≡ 0
          by_case true e = absurd (omega arith)
          by_case false e = refl

      of_item : (i : Option StreamItem) → item_share g one_each None i ≡ 0 → item_share g (amount_each field) None i ≡ 0
      of_item None e = refl
      of_item (Some i) e = of_key i.row i.key e

  value_step : (st : Store) (q : Place) (x : Item) → let a : Arrival = arrival p q x in
      fin.get ((whole_step rules p st a).store.tables n) g ≡ at_key (step_key x.message) g (added field (fin.get (st.tables n) g) (items_from a (λ m. None) 0 p.kinds f)) (fin.get (st.tables n) g)
  value_step st q x =
      let a : Arrival = arrival p q x in
      let items = items_from a (λ m. None) 0 p.kinds in
      node_step rules p n st a items (λ old. added field old (items f)) (step_key x.message)
      (λ k. (value_is rules a items (olds_at st (Some k)) (olds_at st (Some k)) 0 p.kinds n (StreamAggregate f None field false) stands).1) g

  abbrev home : TaskId
  home = home_task rules p n g

  -- an item of the group comes to the group's task alone
  elsewhere : (q : Place) (x : Item) → (is_changelog q.topic ≡ false → FitsAt rules p q x.message) → same_task home ((machine rules p).reader q) ≡ false → (w : Row → ℕ) →
      item_share g w None (items_from (arrival p q x) (λ m. None) 0 p.kinds f) ≡ 0
  elsewhere q x fit away w =
      let a : Arrival = arrival p q x in
      ⊎_elim (λ (e : items_from a (λ m. None) 0 p.kinds f ≡ None). ap (item_share g w None) e) (λ o. of_item (items_from a (λ m. None) 0 p.kinds f) refl o)
      (items_owned rules p a (λ m. None) 0 p.kinds (λ c. inl refl) fits f)
    where
      of_key : (row : Row) (k : Option Key) → step_key x.message ≡ k → Owned rules p q.topic f → group_share g w row k ≡ 0
      of_key row None e o = refl
      of_key row (Some h) e o = elim (eq_by_cmp by_bytes g h) as (λ b. eq_by_cmp by_bytes g h ≡ b → cond b (w row) 0 ≡ 0) [
        | true ↦ λ b.
            let is : g ≡ h = slice_cmp-IsAntisymmetric nat_cmp-IsAntisymmetric g h (equal _ b) in
            let at : FitsKey rules p q h = fits_key rules p q x.message h e (fit o.list) in
            let there : (machine rules p).reader q ≡ home = ap₂ (λ (i j : ℕ). record { sub = i; part = j }) (o.sub ∙ beside.sub) (at ∙ ap₂ rules.part (sym is) (o.spread ∙ beside.spread)) in
            let yes : same_task home ((machine rules p).reader q) ≡ true = (same_task-is home ((machine rules p).reader q)).1 (sym there) in
            cc
        | false ↦ λ b. refl
      ] refl

      of_item : (i : Option StreamItem) → items_from (arrival p q x) (λ m. None) 0 p.kinds f ≡ i → Owned rules p q.topic f → item_share g w None i ≡ 0
      of_item None e o = refl
      of_item (Some i) e o = of_key i.row i.key (item_key (arrival p q x) p f own i e) o

  pub record Both (st : RunState TaskId Place Store Item) : Type 0 where
    pub placed : Placed rules p st
    pub stored : StoredAll st

  abbrev then_at : RunState TaskId Place Store Item → Place → Item → Bool → Option Stored
  then_at st q x b = fin.get ((cond b (step rules p ((machine rules p).reader q) (st.stores ((machine rules p).reader q)) q x).store (st.stores home)).tables n) g

  both_step : (st : RunState TaskId Place Store Item) (s : Option TaskId) (q : Place) (xs : List Item) → st.waiting s q ≡ xs → Both st → Both (take_first (machine rules p) st s q xs)
  both_step st s q [] e h = h
  both_step st s q (x ∷ rest) e h = record {
    placed = placed_step rules p fits st s q (x ∷ rest) e h.placed;
    stored =
        let u = (machine rules p).reader q in
        let a : Arrival = arrival p q x in
        let now : Taken TaskId Place Item = record { sender = s; place = q; item = x } in
        let item = items_from a (λ m. None) 0 p.kinds f in
        let c = sum_map (share one_each) st.taken in
        let d = sum_map (share (amount_each field)) st.taken in
        let fit : is_changelog q.topic ≡ false → FitsAt rules p q x.message = λ list. (each_parts (FitsAt rules p q) x.message (messages rest) (subst (λ l. Each (FitsAt rules p q) (messages l)) e (h.placed.waiting s q list))).0 in
        let grown : stored_count (c + item_share g one_each None item) (d + item_share g (amount_each field) None item) ≡ stored_count (sum_map (share one_each) (st.taken ++ now ∷ [])) (sum_map (share (amount_each field)) (st.taken ++ now ∷ [])) =
        ap₂ stored_count (grow one_each st.taken now) (grow (amount_each field) st.taken now) in
        elim (same_task home u) as (λ b. same_task home u ≡ b → then_at st q x b ≡ stored_count (c + item_share g one_each None item) (d + item_share g (amount_each field) None item)) [
          | true ↦ λ b.
              let is : u ≡ home = sym ((same_task-is home u).0 b) in
              let old = fin.get ((st.stores home).tables n) g in
              ap (λ v. fin.get ((whole_step rules p (st.stores v) a).store.tables n) g) is ∙ value_step (st.stores home) q x
              ∙ item_added item (step_key x.message) (λ i is. item_key a p f own i is) old c d h.stored (no_amount st.taken)
          | false ↦ λ b.
              let none = elsewhere q x fit b one_each in
              let nothing = elsewhere q x fit b (amount_each field) in
              h.stored ∙ ap₂ stored_count (omega arith) (omega arith)
        ] refl ∙ grown;
  }
    where
      grow : (w : Row → ℕ) (ts : List (Taken TaskId Place Item)) (t : Taken TaskId Place Item) → sum_map (share w) ts + share w t ≡ sum_map (share w) (ts ++ t ∷ [])
      grow w ts t = let e = sum_map-append (share w) ts (t ∷ []) in omega arith

  pub both_run : (records : List Input) (schedule : List (Option TaskId × Place)) → Both (run (machine rules p) (inputs_of rules p records) schedule)
  both_run records schedule = kept_by_run (machine rules p) Both (λ st c h. both_step st c.0 c.1 (st.waiting c.0 c.1) refl h) (initial (machine rules p) (inputs_of rules p records))
      (record { placed = placed_run rules p fits records []; stored = fin.get-empty by_bytes g }) schedule
