-- A windowed count is the query's where nothing was late, once nothing waits.
use Rattle.std.proofs.Common.{◌≡◌, ℕ, suc, ◌+◌, ◌<◌, Bool, true, false, cond, List, length, [], ◌∷◌, ◌++◌, map, Option, Some, None, fold, refl, sym, ap, ap₂, subst, ◌∙◌, arith, append-nil, nat_eq}
use Rattle.std.specs.Prelude.{option_map, option_and_then}
use Rattle.std.specs.List.{flat_map}
use Rattle.std.proofs.lemmas.Bool.Decides.{Decides-eqb}
use Rattle.std.specs.Ordering.{eq_by_cmp}
use Rattle.ks_record.specs.declared.record.TaskId.{TaskId}
use Rattle.ks_record.specs.Parts.{same_task}
use Rattle.ks_expr.specs.Eval.{Row, holds, project}
use Rattle.ks_wire.specs.declared.values.Agg.{Agg}
use Rattle.ks_plan.specs.declared.node.Topic.{Topic}
use Rattle.ks_plan.specs.declared.node.Topic.TheVariants.{Input as InputTopic, Repartition}
use Rattle.ks_plan.specs.Plan.{Plan, Kind, Window}
use Rattle.ks_plan.specs.Plan.Kind.{StreamSource, TableSource, StreamFilter, TableFilter, StreamMap, TableMap, KeySelected, StreamAggregate, TableAggregate, Windowed, KeyJoin, ForeignKeyJoin}
use Rattle.ks_plan.specs.Layout.{spread_of, same_topic}
use Rattle.ks_def_runs.specs.FinMap as fin
use Rattle.ks_def_runs.proofs.Tables.{equal}
use Rattle.ks_query.specs.Streams.{Key, Input, StreamItem, filter_item, map_item, rekey_item, group_key, grouped}
use Rattle.ks_query.specs.Windows.{WindowKey, by_window, windows}
use Rattle.ks_query.specs.Query.{with_number, add_to, in_windows, query}
use Rattle.ks_query.specs.Aggregates.{agg_row}
use Rattle.ks_row.specs.FieldKeys.{field_key}
use Rattle.ks_def_runs.specs.Run.{Taken, RunState, sent_to, take_first, initial, run}
use Rattle.ks_def_runs.proofs.Runs.{kept_by_run, sent_to-append, Follows-run}
use Rattle.ks_def_runs.proofs.Sums.{sum_map, sum_map-append, sum_map-same, sum_taken, sum_taken-append}
use Rattle.ks_def_tasks.specs.Messages.{Place, same_place, Message, Item, Store, Rules}
use Rattle.ks_def_tasks.specs.Messages.Message.{Given, Keyed, Moved, Asked, Answered, Kept, KeptCount, KeptTime, KeptHash}
use Rattle.ks_def_tasks.specs.Step.{Arrival, Sent, step_key, item_given, item_keyed, item_at, items_from, olds_at, news_at, regroup, keyed_to, whole_step}
use Rattle.ks_def_tasks.specs.Tasks.{to_part, arrival, machine, step, sent_item, written_item, inputs_of, is_changelog}
use Rattle.ks_def_tasks.specs.Rest.{IsDrained}
use Rattle.ks_def_tasks.proofs.Names.{names, same_task-is, same_place-is}
use Rattle.ks_law_quiescence.specs.Groups.{place_of}
use Rattle.ks_law_quiescence.specs.States.{State, state_of, home_task}
use Rattle.ks_law_quiescence.specs.Streams.{item_of_step, takers, all_waiting}
use Rattle.ks_law_topology.specs.Taken.{messages}
use Rattle.ks_law_quiescence.proofs.Counted.{counted}
use Rattle.ks_law_topology.proofs.Each.{Each, each_parts}
use Rattle.ks_law_topology.proofs.Fits.{Fits, each_at}
use Rattle.ks_law_quiescence.proofs.ItemsRest.{opt_share, items_rest}
use Rattle.ks_law_topology.proofs.Mixed.{picked, unwritten, step_sends_own, apart, Stands_at}
use Rattle.ks_law_quiescence.proofs.Passing as passing
use Rattle.ks_law_topology.proofs.Placed.{Placed, FitsAt, placed_step, placed_run, topic-is}
use Rattle.ks_query.proofs.Pointwise.{get-map_values}
use Rattle.ks_law_quiescence.proofs.Queries.{query_at, given_here}
use Rattle.ks_law_quiescence.proofs.Received.{no_inputs}
use Rattle.ks_law_quiescence.proofs.WindowGroups.{window_total, window_same, starts_at, group_windows, own_windows, item_windows, query_counted, share_of_step, all_shares, elsewhere, windows_run}

-- ---- an item has the time of its record
module _ (a : Arrival) where
  abbrev HasTime : Option StreamItem → Type 0
  HasTime y = (x : StreamItem) → y ≡ Some x → x.time ≡ a.item.time

  inside : {A : Type 0} {y z : A} → Some y ≡ Some z → y ≡ z
  inside e = cc

  given_time : (m : Message) (b : Bool) → HasTime (item_given a.item.time (cond b (Some m) None))
  given_time m false x e = cc
  given_time (Given k None) true x e = cc
  given_time (Given k (Some v)) true x e = ap (λ (y : StreamItem). y.time) (sym (inside e))
  given_time (Keyed g row) true x e = cc
  given_time (Moved g d) true x e = cc
  given_time (Asked c l s) true x e = cc
  given_time (Answered l r) true x e = cc
  given_time (Kept g w) true x e = cc
  given_time (KeptCount g w) true x e = cc
  given_time (KeptTime t) true x e = cc
  given_time (KeptHash c l s) true x e = cc

  filtered_time : (y : Option StreamItem) (test : _) → HasTime y → HasTime (option_and_then (filter_item test) y)
  filtered_time None test h x e = cc
  filtered_time (Some y) test h x e = elim (holds test y.row) as (λ b. cond b (Some y) None ≡ Some x → x.time ≡ a.item.time) [ true ↦ λ f. h x f | false ↦ λ f. cc ] e

  mapped_time : (y : Option StreamItem) (set : _) → HasTime y → HasTime (option_and_then (map_item set) y)
  mapped_time None set h x e = cc
  mapped_time (Some y) set h x e = of_row (project set (Some y.row) None) e
    where
      of_row : (r : Option Row) → option_map (λ row. record y { row = row }) r ≡ Some x → x.time ≡ a.item.time
      of_row None f = cc
      of_row (Some row) f = ap (λ (z : StreamItem). z.time) (sym (inside f)) ∙ h y refl

  rekeyed_time : (y : Option StreamItem) (name : List ℕ) → HasTime y → HasTime (option_and_then (rekey_item name) y)
  rekeyed_time None name h x e = cc
  rekeyed_time (Some y) name h x e = of_key (field_key name y.row) e
    where
      of_key : (r : Option Key) → option_map (λ k. record y { key = Some k }) r ≡ Some x → x.time ≡ a.item.time
      of_key None f = cc
      of_key (Some k) f = ap (λ (z : StreamItem). z.time) (sym (inside f)) ∙ h y refl

  time_at : (items : ℕ → Option StreamItem) (k : Kind) → ((c : ℕ) → HasTime (items c)) → HasTime (item_at a items k)
  time_at items (StreamSource t) h = given_time a.item.message (same_topic a.topic (InputTopic t))
  time_at items (StreamFilter g test) h = filtered_time (items g) test (h g)
  time_at items (StreamMap g set) h = mapped_time (items g) set (h g)
  time_at items (KeySelected g k) h = rekeyed_time (items g) k (h g)
  time_at items (TableSource t) h = λ x e. cc
  time_at items (TableFilter g x) h = λ x e. cc
  time_at items (TableMap g s) h = λ x e. cc
  time_at items (StreamAggregate g by field through) h = λ x e. cc
  time_at items (TableAggregate g by field) h = λ x e. cc
  time_at items (Windowed g by w through) h = λ x e. cc
  time_at items (KeyJoin l r kind s) h = λ x e. cc
  time_at items (ForeignKeyJoin l r fk kind s) h = λ x e. cc

  times_from : (items : ℕ → Option StreamItem) (n : ℕ) (ks : List Kind) → ((c : ℕ) → HasTime (items c)) → (c : ℕ) → HasTime (items_from a items n ks c)
  times_from items n [] h = h
  times_from items n (k ∷ ks) h = times_from (with_number items n (item_at a items k)) (suc n) ks
      (λ c. elim (nat_eq c n) as (λ b. HasTime (cond b (item_at a items k) (items c))) [ true ↦ time_at items k h | false ↦ h c ])

  pub item_time : (p : Plan) (f : ℕ) (x : StreamItem) → items_from a (λ n. None) 0 p.kinds f ≡ Some x → x.time ≡ a.item.time
  item_time p f = times_from (λ n. None) 0 p.kinds (λ c x e. cc) f

module _ (rules : Rules) (p : Plan) where
  abbrev stamp : ℕ → Message → Item
  stamp time m = record { message = m; time = time }

  picked_items : (q : Place) (time : ℕ) (xs : List Sent) → sent_to (machine rules p) q (map (sent_item rules p time) xs) ≡ map (stamp time) (picked rules p q xs)
  picked_items q time [] = refl
  picked_items q time (s ∷ xs) =
      let rest = sent_to (machine rules p) q (map (sent_item rules p time) xs) in
      elim (same_place q (record { topic = s.topic; part = to_part rules p s.topic s.key s.to })) as (λ b. cond b (stamp time s.message ∷ rest) rest ≡ map (stamp time) (cond b (s.message ∷ picked rules p q xs) (picked rules p q xs))) [
        | true ↦ ap (λ l. stamp time s.message ∷ l) (picked_items q time xs)
        | false ↦ picked_items q time xs
      ]

  made_items : (u : TaskId) (st : Store) (q to : Place) (x : Item) → is_changelog to.topic ≡ false →
      sent_to (machine rules p) to (step rules p u st q x).made ≡ map (stamp x.time) (picked rules p to (whole_step rules p st (arrival p q x)).sends)
  made_items u st q to x free =
      let made = whole_step rules p st (arrival p q x) in
      let key = step_key x.message in
      let a : Arrival = arrival p q x in
      let items = items_from a (λ n. None) 0 p.kinds in
      let olds = olds_at st key in
      let news = news_at rules p a items olds key in
      sent_to-append (machine rules p) to (map (sent_item rules p x.time) made.sends) (map (written_item u.part x.time) made.changes)
      ∙ ap (λ l. sent_to (machine rules p) to (map (sent_item rules p x.time) made.sends) ++ l) (unwritten rules p to free u.part x.time a items st olds news 0 p.kinds) ∙ append-nil _
      ∙ picked_items to x.time made.sends

stamped_sum : (f : Item → ℕ) (time : ℕ) (ms : List Message) → sum_map f (map (λ m. record { message = m; time = time }) ms) ≡ sum_map (λ m. f (record { message = m; time = time })) ms
stamped_sum f time [] = refl
stamped_sum f time (m ∷ ms) = ap (λ n. f (record { message = m; time = time }) + n) (stamped_sum f time ms)

module _ (rules : Rules) (p : Plan) (fits : Fits p) (n f : ℕ) (by : Option (List ℕ)) (w : Window) (k : WindowKey) where
  abbrev place : Place
  place = place_of rules p n k.0

  abbrev pub share_in : Item → ℕ
  share_in x = own_windows k w (item_keyed x.time (Some x.message))

  -- what a step sends of the group
  one_sent : (time : ℕ) (row : Row) (h : Option Key) → sum_map (λ m. share_in (record { message = m; time = time })) (picked rules p place (keyed_to n row h)) ≡ group_windows k w h time
  one_sent time row None = refl
  one_sent time row (Some h) =
      let to : Place = record { topic = Repartition n; part = rules.part h (spread_of p n) } in
      elim (same_place place to) as (λ b. same_place place to ≡ b → sum_map (λ m. share_in (record { message = m; time = time })) (cond b (Keyed h row ∷ []) []) ≡ starts_at k w h (windows w time)) [
        | true ↦ λ b. sum_zero _
        | false ↦ λ b. sym (apart_windows (λ s. elim (eq_by_cmp by_window k (h, s)) as (λ c. eq_by_cmp by_window k (h, s) ≡ c → c ≡ false) [
          | true ↦ λ c.
              let is : k.0 ≡ h = ap (λ (v : WindowKey). v.0) (window_same k (h, s) (equal _ c)) in
              sym ((same_place-is place to).1 (ap (λ g. record { topic = Repartition n; part = rules.part g (spread_of p n) }) is)) ∙ b
          | false ↦ λ c. refl
        ] refl) (windows w time))
      ] refl
    where
      sum_zero : (m : ℕ) → m + 0 ≡ m
      sum_zero m = omega arith

      apart_windows : ((s : ℕ) → eq_by_cmp by_window k (h, s) ≡ false) → (ss : List ℕ) → starts_at k w h ss ≡ 0
      apart_windows differ [] = refl
      apart_windows differ (s ∷ ss) = rw (differ s) (omega (arith, apart_windows differ ss))

  module _ (stands : Stands_at n (Windowed f by w true) 0 p.kinds) where
    item_sent : (t : Taken TaskId Place Item) (i : Option StreamItem) → ((y : StreamItem) → i ≡ Some y → y.time ≡ t.item.time) →
        sum_map (λ m. share_in (record { message = m; time = t.item.time })) (picked rules p place (regroup by n i)) ≡ item_windows k w by i
    item_sent t None h = refl
    item_sent t (Some y) h = one_sent t.item.time y.row (group_key by y) ∙ ap (group_windows k w (group_key by y)) (sym (h y refl))

    pub step_sent : (u : TaskId) (st : Store) (t : Taken TaskId Place Item) → sum_map share_in (sent_to (machine rules p) place (step rules p u st t.place t.item).made) ≡ item_windows k w by (item_of_step p f t)
    step_sent u st t =
        let a : Arrival = arrival p t.place t.item in
        ap (sum_map share_in) (made_items rules p u st t.place place t.item refl) ∙ stamped_sum share_in t.item.time _
        ∙ ap (sum_map (λ m. share_in (record { message = m; time = t.item.time }))) (step_sends_own rules p (Repartition n) n (apart n) (Windowed f by w true) stands st a place.part)
        ∙ item_sent t (item_of_step p f t) (λ y e. item_time a p f y e)

    -- all that came is what was taken at the group's partition
    pub record AtPlace (st : RunState TaskId Place Store Item) : Type 0 where
      pub placed : Placed rules p st
      pub sums : all_shares rules p fits n f by w true stands k st.taken ≡ sum_taken (machine rules p) share_in place st.taken

    at_place_step : (st : RunState TaskId Place Store Item) (s : Option TaskId) (q : Place) (xs : List Item) → st.waiting s q ≡ xs → AtPlace st → AtPlace (take_first (machine rules p) st s q xs)
    at_place_step st s q [] e h = h
    at_place_step st s q (x ∷ rest) e h = record {
      placed = placed_step rules p fits st s q (x ∷ rest) e h.placed;
      sums =
          let now : Taken TaskId Place Item = record { sender = s; place = q; item = x } in
          sum_map-append (share_of_step rules p fits n f by w true stands k) st.taken (now ∷ []) ∙ ap₂ (λ a b. a + (b + 0)) h.sums here ∙ sym (sum_taken-append (machine rules p) share_in place st.taken (now ∷ []));
    }
      where
        fit : is_changelog q.topic ≡ false → FitsAt rules p q x.message
        fit list = (each_parts (FitsAt rules p q) x.message (messages rest) (subst (λ l. Each (FitsAt rules p q) (messages l)) e (h.placed.waiting s q list))).0

        here : share_of_step rules p fits n f by w true stands k (record { sender = s; place = q; item = x }) ≡ cond (same_place place q) (share_in x) 0
        here = elim (same_place place q) as (λ b. same_place place q ≡ b → share_of_step rules p fits n f by w true stands k (record { sender = s; place = q; item = x }) ≡ cond b (share_in x) 0) [
          | true ↦ λ b.
              let is : q ≡ place = sym ((same_place-is place q).0 b) in
              let topic : same_topic q.topic (Repartition n) ≡ true = ap (λ (v : Place). same_topic v.topic (Repartition n)) is ∙ (Decides-eqb n n).1 refl in
              ap (λ c. own_windows k w (item_keyed x.time (cond c (Some x.message) None))) topic
          | false ↦ λ b. elim (same_topic q.topic (Repartition n)) as (λ c. same_topic q.topic (Repartition n) ≡ c → own_windows k w (item_keyed x.time (cond c (Some x.message) None)) ≡ 0) [
            | true ↦ λ c.
                let topic : q.topic ≡ Repartition n = topic-is q.topic (Repartition n) c in
                let away : same_task (home_task rules p n k.0) ((machine rules p).reader q) ≡ false = elim (same_task (home_task rules p n k.0) ((machine rules p).reader q)) as (λ d. same_task (home_task rules p n k.0) ((machine rules p).reader q) ≡ d → d ≡ false) [
                  | true ↦ λ d.
                      let is : home_task rules p n k.0 ≡ (machine rules p).reader q = (same_task-is (home_task rules p n k.0) ((machine rules p).reader q)).0 d in
                      let whole : place ≡ q = ap₂ (λ (v : Topic) (j : ℕ). record { topic = v; part = j }) (sym topic) (ap (λ (v : TaskId). v.part) is) in
                      sym ((same_place-is place q).1 whole) ∙ b
                  | false ↦ λ d. refl
                ] refl in
                ap (λ d. own_windows k w (item_keyed x.time (cond d (Some x.message) None))) (sym c) ∙ elsewhere rules p fits n f by w true stands k true refl q x fit away s
            | false ↦ λ c. refl
          ] refl
        ] refl

    pub at_place_run : (records : List Input) (schedule : List (Option TaskId × Place)) → AtPlace (run (machine rules p) (inputs_of rules p records) schedule)
    at_place_run records schedule = kept_by_run (machine rules p) AtPlace (λ st c h. at_place_step st c.0 c.1 (st.waiting c.0 c.1) refl h) (initial (machine rules p) (inputs_of rules p records))
        (record { placed = placed_run rules p fits records []; sums = refl }) schedule

-- ---- at rest
module _ (rules : Rules) (p : Plan) (fits : Fits p) (records : List Input) (schedule : List (Option TaskId × Place)) (n f : ℕ) (w : Window) (within : f < length p.kinds) (before : f < n) (drained : IsDrained (state_of rules p records schedule)) (k : WindowKey) where
  abbrev st : State
  st = state_of rules p records schedule

  same_share : (by : Option (List ℕ)) (i : Option StreamItem) → opt_share (λ y. item_windows k w by (Some y)) i ≡ item_windows k w by i
  same_share by None = refl
  same_share by (Some y) = refl

  pub passed_sum : (by : Option (List ℕ)) → sum_map (λ t. item_windows k w by (item_of_step p f t)) st.taken ≡ sum_map (λ y. item_windows k w by (Some y)) ((query p records).items f)
  passed_sum by = sum_map-same _ _ st.taken (λ t. sym (same_share by (item_of_step p f t))) ∙ items_rest rules p fits records schedule drained f within (λ y. item_windows k w by (Some y))

  pub nothing_waits : (us : List TaskId) → flat_map (λ u. st.waiting (Some u) (place_of rules p n k.0)) us ≡ []
  nothing_waits [] = refl
  nothing_waits (u ∷ us) = ap₂ (λ xs ys. xs ++ ys) (drained (Some u) (place_of rules p n k.0) refl) (nothing_waits us)

  through_sum : (by : Option (List ℕ)) (stands : Stands_at n (Windowed f by w true) 0 p.kinds) → all_shares rules p fits n f by w true stands k st.taken ≡ sum_map (λ y. item_windows k w by (Some y)) ((query p records).items f)
  through_sum by stands =
      let q = place_of rules p n k.0 in
      let share : Item → ℕ = share_in rules p fits n f by w k in
      let follows = Follows-run (machine rules p) (names rules p) (inputs_of rules p records) schedule in
      let whole = passing.taken_and_waiting rules p q (λ records. no_inputs rules p records n q.part) share (λ t. item_windows k w by (item_of_step p f t)) (step_sent rules p fits n f by w k stands) records st follows in
      let none : sum_map share (all_waiting rules p st q) ≡ 0 = ap (sum_map share) (nothing_waits (takers rules p st.taken)) in
      let taken : sum_taken (machine rules p) share q st.taken ≡ sum_map (λ t. item_windows k w by (item_of_step p f t)) st.taken = omega arith in
      (at_place_run rules p fits n f by w k stands records schedule).sums ∙ taken ∙ passed_sum by

  direct_sum : (stands : Stands_at n (Windowed f None w false) 0 p.kinds) → all_shares rules p fits n f None w false stands k st.taken ≡ sum_map (λ y. item_windows k w None (Some y)) ((query p records).items f)
  direct_sum stands = sum_map-same _ _ st.taken (λ t. own (item_of_step p f t)) ∙ passed_sum None
    where
      own : (i : Option StreamItem) → own_windows k w i ≡ item_windows k w None i
      own None = refl
      own (Some y) = refl

  pub shares_are : (by : Option (List ℕ)) (through : Bool) (stands : Stands_at n (Windowed f by w through) 0 p.kinds) → all_shares rules p fits n f by w through stands k st.taken ≡ sum_map (λ y. item_windows k w by (Some y)) ((query p records).items f)
  shares_are by true stands = through_sum by stands
  shares_are None false stands = direct_sum stands
  shares_are (Some name) false stands =
      let h = each_at p 0 p.kinds n (Windowed f (Some name) w false) fits stands in
      let none : Some name ≡ None = (h.2 refl).0 in
      cc

  -- the query's count of the window
  pub query_is : (by : Option (List ℕ)) (through : Bool) → Stands_at n (Windowed f by w through) 0 p.kinds →
      fin.get ((query p records).windows n) k ≡ option_map (agg_row true) (counted (sum_map (λ y. item_windows k w by (Some y)) ((query p records).items f)) 0)
  query_is by through stands =
      let answer = query_at records p n (Windowed f by w through) stands in
      ap (λ t. fin.get t k) (answer.windows ∙ given_here records answer.then.windows n _)
      ∙ get-map_values window_total window_same (λ x. Some (agg_row true x)) (fold (add_to {R = by_window} None) fin.empty (in_windows w (grouped by (answer.then.items f)))) k
      ∙ ap (λ xs. option_and_then (λ x. Some (agg_row true x)) (fin.get (fold (add_to {R = by_window} None) fin.empty (in_windows w (grouped by xs))) k)) (answer.before.items f before)
      ∙ ap (option_and_then (λ x. Some (agg_row true x))) (query_counted k w by ((query p records).items f)) ∙ as_row _
    where
      as_row : (x : Option Agg) → option_and_then (λ x. Some (agg_row true x)) x ≡ option_map (agg_row true) x
      as_row None = refl
      as_row (Some x) = refl

  pub window_rests : (by : Option (List ℕ)) (through : Bool) → Stands_at n (Windowed f by w through) 0 p.kinds → st.late ≡ 0 → (u : TaskId) →
      option_map (agg_row true) (fin.get ((st.stores u).counts n) k) ≡ cond (same_task u (home_task rules p n k.0)) (fin.get ((query p records).windows n) k) None
  window_rests by through stands late u =
      let own = (windows_run rules p fits n f by w through stands k records schedule).counts late u in
      let total = sum_map (λ y. item_windows k w by (Some y)) ((query p records).items f) in
      ap (option_map (agg_row true)) own ∙ ap (λ m. option_map (agg_row true) (counted (cond (same_task u (home_task rules p n k.0)) m 0) 0)) (shares_are by through stands)
      ∙ elim (same_task u (home_task rules p n k.0)) as (λ b. option_map (agg_row true) (counted (cond b total 0) 0) ≡ cond b (fin.get ((query p records).windows n) k) None) [ true ↦ sym (query_is by through stands) | false ↦ refl ]
