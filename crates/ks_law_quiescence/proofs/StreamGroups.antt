-- A stream aggregate behind a repartition topic: what its tasks stored and what waits is what was passed on.
use Rattle.std.proofs.Common.{◌≡◌, ℕ, ◌+◌, Bool, true, false, cond, List, [], ◌∷◌, ◌++◌, map, Option, Some, None, fold, refl, sym, ap, ap₂, subst, ◌∙◌, arith, append-nil}
use Rattle.std.specs.Prelude.{option_map, is_none}
use Rattle.std.proofs.lemmas.Bool.Decides.{Decides-eqb}
use Rattle.std.specs.Ordering.{eq_by_cmp}
use Rattle.std.specs.FinMap.{slice_cmp-IsAntisymmetric, nat_cmp-IsAntisymmetric}
use Rattle.ks_record.specs.declared.record.TaskId.{TaskId}
use Rattle.ks_record.specs.Parts.{same_task}
use Rattle.ks_expr.specs.Eval.{Row}
use Rattle.ks_wire.specs.declared.values.Agg.{Agg}
use Rattle.ks_plan.specs.declared.node.Topic.{Topic}
use Rattle.ks_plan.specs.declared.node.Topic.TheVariants.{Repartition}
use Rattle.ks_plan.specs.Plan.{Plan}
use Rattle.ks_plan.specs.Plan.Kind.{StreamAggregate}
use Rattle.ks_plan.specs.Layout.{spread_of, same_topic}
use Rattle.ks_def_runs.specs.FinMap as fin
use Rattle.ks_def_runs.specs.FinMap.{FinMap}
use Rattle.ks_def_runs.specs.Bytes.{by_bytes}
use Rattle.ks_def_runs.proofs.Tables.{equal}
use Rattle.ks_query.specs.Streams.{Key, Input, StreamItem, some_of, with_some, group_key, grouped}
use Rattle.ks_query.specs.Query.{add_to, item_rows}
use Rattle.ks_query.specs.Aggregates.{amount_in, stream_add}
use Rattle.ks_def_runs.specs.Run.{Taken, RunState, Follows, sent_to, take_first, initial, run}
use Rattle.ks_def_runs.proofs.Runs.{kept_by_run}
use Rattle.ks_def_runs.proofs.Sums.{sum_map, sum_map-append}
use Rattle.ks_def_tasks.specs.Messages.{Place, same_place, Stored, agg_of, Message, Item, Store, Rules}
use Rattle.ks_def_tasks.specs.Messages.Stored.{OfAgg}
use Rattle.ks_def_tasks.specs.Messages.Message.{Given, Keyed, Moved, Asked, Answered, Kept, KeptCount, KeptTime, KeptHash}
use Rattle.ks_def_tasks.specs.Step.{Arrival, arrived, step_key, added, item_keyed, regroup, keyed_to, whole_step, items_from, olds_at}
use Rattle.ks_def_tasks.specs.Tasks.{arrival, machine, step, inputs_of}
use Rattle.ks_def_tasks.proofs.Names.{same_task-is, same_place-is}
use Rattle.ks_law_quiescence.specs.Groups.{place_of}
use Rattle.ks_law_quiescence.specs.States.{home_task}
use Rattle.ks_law_quiescence.specs.Streams.{item_of_step, passed_on, all_waiting, one_joined}
use Rattle.ks_law_topology.specs.Taken.{messages, taken_at}
use Rattle.ks_law_quiescence.proofs.Counted.{counted, one_added, add_counted}
use Rattle.ks_law_quiescence.proofs.Follow.{value_is}
use Rattle.ks_law_topology.proofs.Mixed.{picked, made_is, step_sends_own, apart, Stands_at}
use Rattle.ks_law_quiescence.proofs.Passing as passing
use Rattle.ks_law_topology.proofs.Placed.{topic-is}
use Rattle.ks_law_quiescence.proofs.Received.{at_key, node_step, no_inputs, messages_sum, taken_sum, either_same}
use Rattle.ks_law_quiescence.proofs.Regrouped.{row_bits}
use Rattle.ks_law_quiescence.proofs.Sources.{taken-append}

-- ---- shares of a group, of pairs, of records and of items
module _ (g : Key) (w : Row → ℕ) where
  abbrev pub pair_share : Key × Row → ℕ
  pair_share e = cond (eq_by_cmp by_bytes g e.0) (w e.1) 0

  abbrev pub keyed_share : Message → ℕ
  keyed_share (Keyed h row) = cond (eq_by_cmp by_bytes g h) (w row) 0
  keyed_share m = 0

  abbrev pub group_share : Row → Option Key → ℕ
  group_share row None = 0
  group_share row (Some h) = cond (eq_by_cmp by_bytes g h) (w row) 0

  abbrev pub item_share : Option (List ℕ) → Option StreamItem → ℕ
  item_share by None = 0
  item_share by (Some x) = group_share x.row (group_key by x)

  pub items_share : (by : Option (List ℕ)) (xs : List StreamItem) → sum_map pair_share (item_rows (grouped by xs)) ≡ sum_map (λ x. item_share by (Some x)) xs
  items_share by [] = refl
  items_share by (x ∷ xs) = one (group_key by x) (items_share by xs)
    where
      one : (k : Option Key) → sum_map pair_share (item_rows (grouped by xs)) ≡ sum_map (λ x. item_share by (Some x)) xs →
          sum_map pair_share (map (λ y. (y.0, y.1.row)) (with_some (option_map (λ h. (h, x)) k) (grouped by xs))) ≡ group_share x.row k + sum_map (λ x. item_share by (Some x)) xs
      one None e = e ∙ zero_sum _
        where
          zero_sum : (n : ℕ) → n ≡ 0 + n
          zero_sum n = omega arith
      one (Some h) e = ap (λ n. cond (eq_by_cmp by_bytes g h) (w x.row) 0 + n) e

  some_share : {A : Type 0} (by : Option (List ℕ)) (f : A → Option StreamItem) (ts : List A) → sum_map (λ x. item_share by (Some x)) (some_of f ts) ≡ sum_map (λ t. item_share by (f t)) ts
  some_share by f [] = refl
  some_share by f (t ∷ ts) = one (f t) (some_share by f ts)
    where
      one : (y : Option StreamItem) → sum_map (λ x. item_share by (Some x)) (some_of f ts) ≡ sum_map (λ t. item_share by (f t)) ts →
          sum_map (λ x. item_share by (Some x)) (with_some y (some_of f ts)) ≡ item_share by y + sum_map (λ t. item_share by (f t)) ts
      one None e = e ∙ zero_sum _
        where
          zero_sum : (n : ℕ) → n ≡ 0 + n
          zero_sum n = omega arith
      one (Some y) e = ap (λ n. item_share by (Some y) + n) e

  -- of the items that were passed on, step by step
  pub passed_share : (p : Plan) (by : Option (List ℕ)) (f : ℕ) (ts : List (Taken TaskId Place Item)) →
      sum_map pair_share (item_rows (grouped by (passed_on p f ts))) ≡ sum_map (λ t. item_share by (item_of_step p f t)) ts
  passed_share p by f ts = items_share by (passed_on p f ts) ∙ some_share by (item_of_step p f) ts

abbrev pub one_each : Row → ℕ
one_each row = 1

abbrev pub amount_each : Option (List ℕ) → Row → ℕ
amount_each field row = row_bits (amount_in field row)

-- ---- groups of pairs
pub pairs_added : (field : Option (List ℕ)) (g : Key) (m : FinMap by_bytes Agg) (x y : ℕ) (es : List (Key × Row)) → (x ≡ 0 → y ≡ 0) → fin.get m g ≡ counted x y →
    fin.get (fold (add_to {R = by_bytes} field) m es) g ≡ counted (x + sum_map (pair_share g one_each) es) (y + sum_map (pair_share g (amount_each field)) es)
pairs_added field g m x y [] f e = e ∙ ap₂ counted (omega arith) (omega arith)
pairs_added field g m x y (r ∷ es) f e =
    let here = one_added [] field g m x y r.1 (Some r.0) f e in
    let still : x + pair_share g one_each r ≡ 0 → y + pair_share g (amount_each field) r ≡ 0 = λ z. no_share (eq_by_cmp by_bytes g r.0) z in
    pairs_added field g (add_to {R = by_bytes} field m r) (x + pair_share g one_each r) (y + pair_share g (amount_each field) r) es still here ∙ ap₂ counted (omega arith) (omega arith)
  where
    no_share : (b : Bool) → x + cond b 1 0 ≡ 0 → y + cond b (amount_each field r.1) 0 ≡ 0
    no_share true z = absurd (omega arith)
    no_share false z = let before = f (omega arith) in omega arith

-- one more record of a group
one_more : (field : Option (List ℕ)) (g : Key) (x y : ℕ) (m : Message) → (x ≡ 0 → y ≡ 0) → one_joined field g (counted x y) m ≡ counted (x + keyed_share g one_each m) (y + keyed_share g (amount_each field) m)
one_more field g x y (Keyed h row) f = elim (eq_by_cmp by_bytes g h) as (λ b. cond b (Some (stream_add field (counted x y) row)) (counted x y) ≡ counted (x + cond b 1 0) (y + cond b (row_bits (amount_in field row)) 0)) [
  | true ↦ add_counted field x y row f
  | false ↦ ap₂ counted (omega arith) (omega arith)
]
one_more field g x y (Given k v) f = ap₂ counted (omega arith) (omega arith)
one_more field g x y (Moved k d) f = ap₂ counted (omega arith) (omega arith)
one_more field g x y (Asked b k s) f = ap₂ counted (omega arith) (omega arith)
one_more field g x y (Answered k r) f = ap₂ counted (omega arith) (omega arith)
one_more field g x y (Kept k w) f = ap₂ counted (omega arith) (omega arith)
one_more field g x y (KeptCount k w) f = ap₂ counted (omega arith) (omega arith)
one_more field g x y (KeptTime t) f = ap₂ counted (omega arith) (omega arith)
one_more field g x y (KeptHash b k h) f = ap₂ counted (omega arith) (omega arith)

-- no record of the group has no amount of it
pub none_shared : (field : Option (List ℕ)) (g : Key) (x y : ℕ) (m : Message) → (x ≡ 0 → y ≡ 0) → x + keyed_share g one_each m ≡ 0 → y + keyed_share g (amount_each field) m ≡ 0
none_shared field g x y (Keyed h row) f z = by_case (eq_by_cmp by_bytes g h) z
  where
    by_case : (b : Bool) → x + cond b 1 0 ≡ 0 → y + cond b (row_bits (amount_in field row)) 0 ≡ 0
    by_case true z = absurd (omega arith)
    by_case false z = let before = f (omega arith) in omega arith
none_shared field g x y (Given k v) f z = let before = f (omega arith) in omega arith
none_shared field g x y (Moved k d) f z = let before = f (omega arith) in omega arith
none_shared field g x y (Asked b k s) f z = let before = f (omega arith) in omega arith
none_shared field g x y (Answered k r) f z = let before = f (omega arith) in omega arith
none_shared field g x y (Kept k w) f z = let before = f (omega arith) in omega arith
none_shared field g x y (KeptCount k w) f z = let before = f (omega arith) in omega arith
none_shared field g x y (KeptTime t) f z = let before = f (omega arith) in omega arith
none_shared field g x y (KeptHash b k h) f z = let before = f (omega arith) in omega arith

-- a group of records that come
pub joined_counted : (field : Option (List ℕ)) (g : Key) (x y : ℕ) (ms : List Message) → (x ≡ 0 → y ≡ 0) →
    fold (one_joined field g) (counted x y) ms ≡ counted (x + sum_map (keyed_share g one_each) ms) (y + sum_map (keyed_share g (amount_each field)) ms)
joined_counted field g x y [] f = ap₂ counted (omega arith) (omega arith)
joined_counted field g x y (m ∷ ms) f =
    ap (λ w. fold (one_joined field g) w ms) (one_more field g x y m f)
    ∙ joined_counted field g (x + keyed_share g one_each m) (y + keyed_share g (amount_each field) m) ms (none_shared field g x y m f) ∙ ap₂ counted (omega arith) (omega arith)

pub none_of_all : (field : Option (List ℕ)) (g : Key) (ms : List Message) → sum_map (keyed_share g one_each) ms ≡ 0 → sum_map (keyed_share g (amount_each field)) ms ≡ 0
none_of_all field g [] e = refl
none_of_all field g (m ∷ ms) e =
    let rest = none_of_all field g ms (omega arith) in
    let here = none_shared field g 0 0 m (λ z. refl) (omega arith) in
    omega arith

-- ---- behind a repartition topic
module _ (rules : Rules) (p : Plan) (n f : ℕ) (by : Option (List ℕ)) (field : Option (List ℕ)) (stands : Stands_at n (StreamAggregate f by field true) 0 p.kinds) (g : Key) where
  abbrev place : Place
  place = place_of rules p n g

  -- what one step sends of the group
  module _ (w : Row → ℕ) where
    one_sent : (row : Row) (k : Option Key) → sum_map (keyed_share g w) (picked rules p place (keyed_to n row k)) ≡ group_share g w row k
    one_sent row None = refl
    one_sent row (Some h) =
        let to : Place = record { topic = Repartition n; part = rules.part h (spread_of p n) } in
        elim (eq_by_cmp by_bytes g h) as (λ b. eq_by_cmp by_bytes g h ≡ b → sum_map (keyed_share g w) (cond (same_place place to) (Keyed h row ∷ []) []) ≡ cond b (w row) 0) [
          | true ↦ λ b.
              let is : g ≡ h = slice_cmp-IsAntisymmetric nat_cmp-IsAntisymmetric g h (equal _ b) in
              let here : same_place place to ≡ true = (same_place-is place to).1 (ap (λ k. record { topic = Repartition n; part = rules.part k (spread_of p n) }) is) in
              ap (λ c. sum_map (keyed_share g w) (cond c (Keyed h row ∷ []) [])) here ∙ ap (λ c. cond c (w row) 0 + 0) b ∙ sum_zero (w row)
          | false ↦ λ b. elim (same_place place to) as (λ c. sum_map (keyed_share g w) (cond c (Keyed h row ∷ []) []) ≡ 0) [ true ↦ ap (λ c. cond c (w row) 0 + 0) b ∙ refl | false ↦ refl ]
        ] refl
      where
        sum_zero : (k : ℕ) → k + 0 ≡ k
        sum_zero k = omega arith

    item_sent : (x : Option StreamItem) → sum_map (keyed_share g w) (picked rules p place (regroup by n x)) ≡ item_share g w by x
    item_sent None = refl
    item_sent (Some x) = one_sent x.row (group_key by x)

    step_sent : (u : TaskId) (st : Store) (t : Taken TaskId Place Item) → sum_map (keyed_share g w) (messages (sent_to (machine rules p) place (step rules p u st t.place t.item).made)) ≡ item_share g w by (item_of_step p f t)
    step_sent u st t =
        ap (sum_map (keyed_share g w)) (made_is rules p u st t.place place t.item refl
        ∙ step_sends_own rules p (Repartition n) n (apart n) (StreamAggregate f by field true) stands st (arrival p t.place t.item) place.part)
        ∙ item_sent (item_of_step p f t)

    -- what was taken, and what waits, of all tasks that made a step
    pub taken_and_waiting : (records : List Input) (st : RunState TaskId Place Store Item) → Follows (machine rules p) (inputs_of rules p records) st →
        sum_map (keyed_share g w) (taken_at place st.taken) + sum_map (keyed_share g w) (messages (all_waiting rules p st place)) ≡ sum_map (λ t. item_share g w by (item_of_step p f t)) st.taken
    taken_and_waiting records st follows =
        ap₂ (λ a b. a + b) (taken_sum rules p (keyed_share g w) place st.taken) (messages_sum (keyed_share g w) (all_waiting rules p st place))
        ∙ passing.taken_and_waiting rules p place (λ records. no_inputs rules p records n place.part) (λ x. keyed_share g w x.message) (λ t. item_share g w by (item_of_step p f t))
        (λ u st t. sym (messages_sum (keyed_share g w) (sent_to (machine rules p) place (step rules p u st t.place t.item).made)) ∙ step_sent u st t) records st follows

  -- ---- what is stored
  abbrev stored_count : ℕ → ℕ → Option Stored
  stored_count x y = option_map (OfAgg (is_none field)) (counted x y)

  came : (time : ℕ) (old : Option Stored) (x y : ℕ) (m : Message) → old ≡ stored_count x y → (x ≡ 0 → y ≡ 0) →
      at_key (step_key m) g (added field old (item_keyed time (Some m))) old ≡ stored_count (x + keyed_share g one_each m) (y + keyed_share g (amount_each field) m)
  came time old x y (Keyed h row) e f = elim (eq_by_cmp by_bytes g h) as (λ b. cond b (Some (OfAgg (is_none field) (stream_add field (agg_of old) row))) old ≡ stored_count (x + cond b 1 0) (y + cond b (row_bits (amount_in field row)) 0)) [
    | true ↦ ap (λ w. Some (OfAgg (is_none field) (stream_add field (agg_of w) row))) e ∙ ap (λ w. Some (OfAgg (is_none field) (stream_add field w row))) (agg_back (counted x y)) ∙ ap (option_map (OfAgg (is_none field))) (add_counted field x y row f)
    | false ↦ e ∙ ap₂ stored_count (omega arith) (omega arith)
  ]
    where
      agg_back : (w : Option Agg) → agg_of (option_map (OfAgg (is_none field)) w) ≡ w
      agg_back None = refl
      agg_back (Some a) = refl
  came time old x y (Given None v) e f = e ∙ ap₂ stored_count (omega arith) (omega arith)
  came time old x y (Given (Some k) None) e f = either_same (eq_by_cmp by_bytes g k) old ∙ e ∙ ap₂ stored_count (omega arith) (omega arith)
  came time old x y (Given (Some k) (Some v)) e f = either_same (eq_by_cmp by_bytes g k) old ∙ e ∙ ap₂ stored_count (omega arith) (omega arith)
  came time old x y (Moved k d) e f = either_same (eq_by_cmp by_bytes g k) old ∙ e ∙ ap₂ stored_count (omega arith) (omega arith)
  came time old x y (Asked b k s) e f = e ∙ ap₂ stored_count (omega arith) (omega arith)
  came time old x y (Answered k r) e f = either_same (eq_by_cmp by_bytes g k) old ∙ e ∙ ap₂ stored_count (omega arith) (omega arith)
  came time old x y (Kept k w) e f = e ∙ ap₂ stored_count (omega arith) (omega arith)
  came time old x y (KeptCount k w) e f = e ∙ ap₂ stored_count (omega arith) (omega arith)
  came time old x y (KeptTime t) e f = e ∙ ap₂ stored_count (omega arith) (omega arith)
  came time old x y (KeptHash b k h) e f = e ∙ ap₂ stored_count (omega arith) (omega arith)

  stays_none : (key : Option Key) (old : Option Stored) → at_key key g (added field old None) old ≡ old
  stays_none None old = refl
  stays_none (Some k) old = either_same (eq_by_cmp by_bytes g k) old

  abbrev counts_of : List Message → Option Stored
  counts_of ms = stored_count (sum_map (keyed_share g one_each) ms) (sum_map (keyed_share g (amount_each field)) ms)

  abbrev StoredIs : RunState TaskId Place Store Item → Type 0
  StoredIs st = fin.get ((st.stores (home_task rules p n g)).tables n) g ≡ counts_of (taken_at place st.taken)

  value_step : (st : Store) (q : Place) (x : Item) → fin.get ((whole_step rules p st (arrival p q x)).store.tables n) g
      ≡ at_key (step_key x.message) g (added field (fin.get (st.tables n) g) (item_keyed x.time (arrived (arrival p q x) (Repartition n)))) (fin.get (st.tables n) g)
  value_step st q x =
      let y : Arrival = arrival p q x in
      let items = items_from y (λ m. None) 0 p.kinds in
      node_step rules p n st y items (λ old. added field old (item_keyed x.time (arrived y (Repartition n)))) (step_key x.message)
      (λ k. (value_is rules y items (olds_at st (Some k)) (olds_at st (Some k)) 0 p.kinds n (StreamAggregate f by field true) stands).1) g

  abbrev home : TaskId
  home = home_task rules p n g

  abbrev then_at : RunState TaskId Place Store Item → Place → Item → Bool → Option Stored
  then_at st q x b = fin.get ((cond b (step rules p ((machine rules p).reader q) (st.stores ((machine rules p).reader q)) q x).store (st.stores home)).tables n) g

  more_counts : (ms : List Message) (m : Message) → stored_count (sum_map (keyed_share g one_each) ms + keyed_share g one_each m) (sum_map (keyed_share g (amount_each field)) ms + keyed_share g (amount_each field) m) ≡ counts_of (ms ++ m ∷ [])
  more_counts ms m =
      let a = sum_map-append (keyed_share g one_each) ms (m ∷ []) in
      let b = sum_map-append (keyed_share g (amount_each field)) ms (m ∷ []) in
      ap₂ stored_count (omega arith) (omega arith)

  stored_here : (st : RunState TaskId Place Store Item) (q : Place) (x : Item) → same_place place q ≡ true → StoredIs st → then_at st q x (same_task home ((machine rules p).reader q)) ≡ counts_of (taken_at place st.taken ++ x.message ∷ [])
  stored_here st q x b h =
      let ms = taken_at place st.taken in
      let is : q ≡ place = sym ((same_place-is place q).0 b) in
      let reader : (machine rules p).reader q ≡ home = ap (machine rules p).reader is in
      let task : same_task home ((machine rules p).reader q) ≡ true = (same_task-is home ((machine rules p).reader q)).1 (sym reader) in
      let topic : same_topic q.topic (Repartition n) ≡ true = ap (λ (v : Place). same_topic v.topic (Repartition n)) is ∙ (Decides-eqb n n).1 refl in
      let old = fin.get ((st.stores home).tables n) g in
      ap (then_at st q x) task ∙ ap (λ v. fin.get ((whole_step rules p (st.stores v) (arrival p q x)).store.tables n) g) reader
      ∙ value_step (st.stores home) q x ∙ ap (λ c. at_key (step_key x.message) g (added field old (item_keyed x.time (cond c (Some x.message) None))) old) topic
      ∙ came x.time old (sum_map (keyed_share g one_each) ms) (sum_map (keyed_share g (amount_each field)) ms) x.message h (none_of_all field g ms)
      ∙ more_counts ms x.message

  stored_apart : (st : RunState TaskId Place Store Item) (q : Place) (x : Item) → same_place place q ≡ false → StoredIs st → then_at st q x (same_task home ((machine rules p).reader q)) ≡ counts_of (taken_at place st.taken)
  stored_apart st q x b h =
      let u = (machine rules p).reader q in
      elim (same_task home u) as (λ c. same_task home u ≡ c → then_at st q x c ≡ counts_of (taken_at place st.taken)) [
        | true ↦ λ c.
            let is : home ≡ u = (same_task-is home u).0 c in
            let part : place.part ≡ q.part = ap (λ (v : TaskId). v.part) is in
            let other : same_topic q.topic (Repartition n) ≡ false = elim (same_topic q.topic (Repartition n)) as (λ d. same_topic q.topic (Repartition n) ≡ d → d ≡ false) [
              | true ↦ λ d.
                  let whole : place ≡ q = ap₂ (λ (v : Topic) (j : ℕ). record { topic = v; part = j }) (sym (topic-is q.topic (Repartition n) d)) part in
                  sym ((same_place-is place q).1 whole) ∙ b
              | false ↦ λ d. refl
            ] refl in
            let old = fin.get ((st.stores u).tables n) g in
            value_step (st.stores u) q x ∙ ap (λ d. at_key (step_key x.message) g (added field old (item_keyed x.time (cond d (Some x.message) None))) old) other
            ∙ stays_none (step_key x.message) old ∙ ap (λ v. fin.get ((st.stores v).tables n) g) (sym is) ∙ h
        | false ↦ λ c. h
      ] refl

  stored_step : (st : RunState TaskId Place Store Item) (s : Option TaskId) (q : Place) (xs : List Item) → StoredIs st → StoredIs (take_first (machine rules p) st s q xs)
  stored_step st s q [] h = h
  stored_step st s q (x ∷ rest) h =
      let now : Taken TaskId Place Item = record { sender = s; place = q; item = x } in
      let ms = taken_at place st.taken in
      let grown : taken_at place (st.taken ++ now ∷ []) ≡ ms ++ cond (same_place place q) (x.message ∷ []) [] = taken-append place st.taken (now ∷ []) in
      subst (λ l. then_at st q x (same_task home ((machine rules p).reader q)) ≡ counts_of l) (sym grown)
      (elim (same_place place q) as (λ b. same_place place q ≡ b → then_at st q x (same_task home ((machine rules p).reader q)) ≡ counts_of (ms ++ cond b (x.message ∷ []) [])) [
        | true ↦ λ b. stored_here st q x b h
        | false ↦ λ b. stored_apart st q x b h ∙ ap counts_of (sym (append-nil ms))
      ] refl)

  pub stored_run : (inputs : Place → List Item) (schedule : List (Option TaskId × Place)) → StoredIs (run (machine rules p) inputs schedule)
  stored_run inputs schedule = kept_by_run (machine rules p) StoredIs (λ st c h. stored_step st c.0 c.1 (st.waiting c.0 c.1) h) (initial (machine rules p) inputs) (fin.get-empty by_bytes g) schedule
