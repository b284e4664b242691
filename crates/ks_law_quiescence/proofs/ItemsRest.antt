-- Once nothing waits, each stream's items were all passed on.
use Rattle.std.proofs.Common.{◌≡◌, ◌≢◌, ℕ, zero, suc, ◌+◌, ◌<◌, ◌≤◌, true, false, cond, ◌&&◌, List, [], ◌∷◌, ◌++◌, map, Option, Some, None, refl, sym, ap, ap₂, subst, ◌∙◌, arith, nat_eq, ne_eqb, ⊎_elim, ◌⊎◌, inl, inr, length, length-append, append-nil, append_assoc}
use Rattle.std.specs.Prelude.{option_map, option_and_then}
use Rattle.std.specs.List.{filter}
use Rattle.std.proofs.lemmas.Bool.Decides.{Decides-eqb}
use Rattle.std.proofs.lemmas.Bool.{eqb-false, cases_lt}
use Rattle.ks_record.specs.declared.record.TaskId.{TaskId}
use Rattle.ks_plan.specs.declared.node.Topic.{Topic}
use Rattle.ks_plan.specs.declared.node.Topic.TheVariants.{Input as InputTopic}
use Rattle.ks_plan.specs.Plan.{Plan, Kind}
use Rattle.ks_plan.specs.Plan.Kind.{StreamSource, TableSource, StreamFilter, TableFilter, StreamMap, TableMap, KeySelected, StreamAggregate, TableAggregate, Windowed, KeyJoin, ForeignKeyJoin}
use Rattle.ks_plan.specs.Layout.{same_topic, is_read, up_to}
use Rattle.ks_query.specs.Streams.{Input, StreamItem, some_of, with_some, item_of, filter_item, map_item, rekey_item}
use Rattle.ks_query.specs.Query.{Answers, with_number, of_topic, answer_node, answer_nodes, no_answers, query}
use Rattle.ks_def_runs.specs.Run.{Taken, Follows, received}
use Rattle.ks_def_runs.proofs.Runs.{Follows-run, received_all}
use Rattle.ks_def_runs.proofs.Sums.{sum_map, sum_map-append, sum_map-add, sum_map-same, sum_map-zero, sum_taken, times, by_senders}
use Rattle.ks_def_tasks.specs.Messages.{Place, same_place, Item, Rules}
use Rattle.ks_def_tasks.specs.Messages.Message.{Given}
use Rattle.ks_def_tasks.specs.Step.{Arrival, arrived, item_given, item_at, items_from}
use Rattle.ks_def_tasks.specs.Tasks.{arrival, machine, stands_at, inputs_of, item_of_input, part_of_key}
use Rattle.ks_def_tasks.specs.Rest.{IsDrained}
use Rattle.ks_def_tasks.proofs.Names.{names}
use Rattle.ks_law_quiescence.specs.States.{State, state_of}
use Rattle.ks_law_quiescence.specs.Streams.{item_of_step}
use Rattle.ks_law_topology.proofs.Fits.{Fits, NodeFits, each_at, stands_after}
use Rattle.ks_law_quiescence.proofs.Inputs.{inputs_alone}
use Rattle.ks_law_topology.proofs.Mixed.{Stands_at}
use Rattle.ks_law_topology.proofs.Placed.{topic-is}
use Rattle.ks_law_quiescence.proofs.Queries.{query_at, given_here}

-- ---- a node's item is made of those of the nodes before it
module _ (x : Arrival) where
  number_here : (items : ℕ → Option StreamItem) (n : ℕ) (v : Option StreamItem) → with_number items n v n ≡ v
  number_here items n v = ap (λ b. cond b v (items n)) ((Decides-eqb n n).1 refl)

  number_other : (items : ℕ → Option StreamItem) (n : ℕ) (v : Option StreamItem) (c : ℕ) → c ≢ n → with_number items n v c ≡ items c
  number_other items n v c ne = ap (λ b. cond b v (items c)) (ne_eqb c n ne)

  stays : (items : ℕ → Option StreamItem) (n : ℕ) (ks : List Kind) (c : ℕ) → c < n → items_from x items n ks c ≡ items c
  stays items n [] c lt = refl
  stays items n (k ∷ ks) c lt = stays (with_number items n (item_at x items k)) (suc n) ks c (omega arith) ∙ number_other items n _ c (λ e. omega arith)

  pub item_is : (items : ℕ → Option StreamItem) (n : ℕ) (ks : List Kind) (a : ℕ) (k : Kind) → Stands_at a k n ks →
      (then : ℕ → Option StreamItem) × (items_from x items n ks a ≡ item_at x then k) × ((c : ℕ) → c < a → then c ≡ items_from x items n ks c)
  item_is items n [] a k s = absurd s
  item_is items n (y ∷ ys) a k s = ⊎_elim
      (λ (e : (n ≡ a) × (y ≡ k)). subst (λ m. (then : ℕ → Option StreamItem) × (items_from x items n (y ∷ ys) m ≡ item_at x then k) × ((c : ℕ) → c < m → then c ≡ items_from x items n (y ∷ ys) c)) e.0
      (items, stays (with_number items n (item_at x items y)) (suc n) ys n (omega arith) ∙ number_here items n _ ∙ ap (item_at x items) e.1, λ c lt. sym (stays items n (y ∷ ys) c lt)))
      (λ (e : (n < a) × Stands_at a k (suc n) ys). item_is (with_number items n (item_at x items y)) (suc n) ys a k e.1) s

-- ---- sums over numbers
none_below : (j v m : ℕ) → m ≤ j → sum_map (λ i. cond (nat_eq j i) v 0) (up_to m) ≡ 0
none_below j v zero le = refl
none_below j v (suc m) le =
    let other : nat_eq j m ≡ false = ne_eqb j m (λ e. omega arith) in
    sum_map-append (λ i. cond (nat_eq j i) v 0) (up_to m) (m ∷ []) ∙ ap₂ (λ a b. a + (cond b v 0 + 0)) (none_below j v m (omega arith)) other

pub once_below : (j v m : ℕ) → j < m → sum_map (λ i. cond (nat_eq j i) v 0) (up_to m) ≡ v
once_below j v zero lt = absurd (omega arith)
once_below j v (suc m) lt =
    sum_map-append (λ i. cond (nat_eq j i) v 0) (up_to m) (m ∷ [])
    ∙ elim (nat_eq j m) as (λ b. nat_eq j m ≡ b → sum_map (λ i. cond (nat_eq j i) v 0) (up_to m) + (cond b v 0 + 0) ≡ v) [
      | true ↦ λ b. let is = (Decides-eqb j m).0 b in let none = none_below j v m (omega arith) in omega arith
      | false ↦ λ b. let ne = eqb-false j m b in let rest = once_below j v m (omega arith) in omega arith
    ] refl

abbrev pub opt_share : (StreamItem → ℕ) → Option StreamItem → ℕ
opt_share f None = 0
opt_share f (Some x) = f x

-- what a chain of two gives
opt_then : (f : StreamItem → ℕ) (g : StreamItem → Option StreamItem) (x : Option StreamItem) → opt_share f (option_and_then g x) ≡ opt_share (λ y. opt_share f (g y)) x
opt_then f g None = refl
opt_then f g (Some x) = refl

some_then : (f : StreamItem → ℕ) (g : StreamItem → Option StreamItem) (xs : List StreamItem) → sum_map f (some_of g xs) ≡ sum_map (λ y. opt_share f (g y)) xs
some_then f g [] = refl
some_then f g (x ∷ xs) = one (g x) (some_then f g xs)
  where
    one : (y : Option StreamItem) → sum_map f (some_of g xs) ≡ sum_map (λ y. opt_share f (g y)) xs → sum_map f (with_some y (some_of g xs)) ≡ opt_share f y + sum_map (λ y. opt_share f (g y)) xs
    one None e = e ∙ zero_sum _
      where
        zero_sum : (n : ℕ) → n ≡ 0 + n
        zero_sum n = omega arith
    one (Some y) e = ap (λ n. f y + n) e

-- ---- the query's items of a node that is no stream: none
module _ (records : List Input) where
  stream_other : (items : ℕ → List StreamItem) (n c : ℕ) (xs : List StreamItem) → c ≢ n → with_number items n xs c ≡ items c
  stream_other items n c xs ne = ap (λ b. cond b xs (items c)) (ne_eqb c n ne)

  items_other : (a : Answers) (n : ℕ) (k : Kind) (c : ℕ) → c ≢ n → (answer_node records a n k).items c ≡ a.items c
  items_other a n (StreamSource t) c ne = stream_other a.items n c _ ne
  items_other a n (StreamFilter f p) c ne = stream_other a.items n c _ ne
  items_other a n (StreamMap f s) c ne = stream_other a.items n c _ ne
  items_other a n (KeySelected f k) c ne = stream_other a.items n c _ ne
  items_other a n (TableSource t) c ne = refl
  items_other a n (TableFilter f p) c ne = refl
  items_other a n (TableMap f s) c ne = refl
  items_other a n (StreamAggregate f by field through) c ne = refl
  items_other a n (TableAggregate f by field) c ne = refl
  items_other a n (Windowed f by w through) c ne = refl
  items_other a n (KeyJoin l r kind s) c ne = refl
  items_other a n (ForeignKeyJoin l r fk kind s) c ne = refl

  items_after : (a : Answers) (n : ℕ) (ks : List Kind) (c : ℕ) → c < n → (answer_nodes records a n ks).items c ≡ a.items c
  items_after a n [] c lt = refl
  items_after a n (k ∷ ks) c lt = items_after (answer_node records a n k) (suc n) ks c (omega arith) ∙ items_other a n k c (λ e. omega arith)

  items_none : (a : Answers) (n : ℕ) (ks : List Kind) (c : ℕ) (k : Kind) → Stands_at c k n ks → ((b : Answers) → (answer_node records b c k).items c ≡ b.items c) → (answer_nodes records a n ks).items c ≡ a.items c
  items_none a n [] c k s same = absurd s
  items_none a n (y ∷ ys) c k s same = ⊎_elim
      (λ (e : (n ≡ c) × (y ≡ k)).
      let m : n ≡ c = e.0 in
      items_after (answer_node records a n y) (suc n) ys c (omega arith) ∙ ap₂ (λ i z. (answer_node records a i z).items c) e.0 e.1 ∙ same a)
      (λ (e : (n < c) × Stands_at c k (suc n) ys). items_none (answer_node records a n y) (suc n) ys c k e.1 same ∙ items_other a n y c (λ f. let lt : n < c = e.0 in omega arith)) s

module _ (rules : Rules) (p : Plan) (fits : Fits p) (records : List Input) (schedule : List (Option TaskId × Place)) (drained : IsDrained (state_of rules p records schedule)) where
  abbrev st : State
  st = state_of rules p records schedule

  -- the items of a node were all passed on: in each sum over them
  abbrev pub ItemsRest : ℕ → Type 0
  ItemsRest c = (f : StreamItem → ℕ) → sum_map (λ t. opt_share f (item_of_step p c t)) st.taken ≡ sum_map f ((query p records).items c)

  -- ---- a source: over the partitions of its topic
  module _ (t : ℕ) (read : is_read p t ≡ true) (f : StreamItem → ℕ) where
    abbrev spot : ℕ → Place
    spot i = record { topic = InputTopic t; part = i }

    abbrev gives : Item → ℕ
    gives x = opt_share f (item_given x.time (Some x.message))

    abbrev given_by : Input → ℕ
    given_by r = opt_share f (item_of r)

    parts_sum : (ts : List (Taken TaskId Place Item)) → ℕ
    parts_sum ts = sum_map (λ t. t.place.part) ts

    records_sum : (rs : List Input) → ℕ
    records_sum rs = sum_map (λ r. part_of_key rules p (InputTopic r.topic) r.key) rs

    topic_turned : (u : Topic) → same_topic (InputTopic t) u ≡ same_topic u (InputTopic t)
    topic_turned u = elim (same_topic u (InputTopic t)) as (λ b. same_topic u (InputTopic t) ≡ b → same_topic (InputTopic t) u ≡ b) [
      | true ↦ λ b. ap (same_topic (InputTopic t)) (topic-is u (InputTopic t) b) ∙ (Decides-eqb t t).1 refl
      | false ↦ λ b. elim (same_topic (InputTopic t) u) as (λ c. same_topic (InputTopic t) u ≡ c → c ≡ false) [
        | true ↦ λ c. sym ((Decides-eqb t t).1 refl) ∙ ap (λ v. same_topic v (InputTopic t)) (topic-is (InputTopic t) u c) ∙ b
        | false ↦ λ c. refl
      ] refl
    ] refl

    -- one record taken, over all partitions
    one_taken : (x : Taken TaskId Place Item) (m : ℕ) → x.place.part < m →
        sum_map (λ i. cond (same_place (spot i) x.place) (gives x.item) 0) (up_to m) ≡ opt_share f (item_given x.item.time (arrived (arrival p x.place x.item) (InputTopic t)))
    one_taken x m lt = elim (same_topic x.place.topic (InputTopic t)) as (λ b. same_topic x.place.topic (InputTopic t) ≡ b →
        sum_map (λ i. cond (same_place (spot i) x.place) (gives x.item) 0) (up_to m) ≡ opt_share f (item_given x.item.time (cond b (Some x.item.message) None))) [
          | true ↦ λ b.
              let is : same_topic (InputTopic t) x.place.topic ≡ true = topic_turned x.place.topic ∙ b in
              sum_map-same _ (λ i. cond (nat_eq x.place.part i) (gives x.item) 0) (up_to m) (λ i. ap (λ c. cond (c && nat_eq i x.place.part) (gives x.item) 0) is ∙ ap (λ c. cond c (gives x.item) 0) (eq_turned i x.place.part))
              ∙ once_below x.place.part (gives x.item) m lt
          | false ↦ λ b.
              let is : same_topic (InputTopic t) x.place.topic ≡ false = topic_turned x.place.topic ∙ b in
              sum_map-same _ (λ i. 0) (up_to m) (λ i. ap (λ c. cond (c && nat_eq i x.place.part) (gives x.item) 0) is) ∙ sum_map-zero (up_to m)
        ] refl
      where
        eq_turned : (i j : ℕ) → nat_eq i j ≡ nat_eq j i
        eq_turned i j = elim (nat_eq j i) as (λ b. nat_eq j i ≡ b → nat_eq i j ≡ b) [
          | true ↦ λ b. (Decides-eqb i j).1 (sym ((Decides-eqb j i).0 b))
          | false ↦ λ b. ne_eqb i j (λ e. eqb-false j i b (sym e))
        ] refl

    all_taken : (m : ℕ) (ts : List (Taken TaskId Place Item)) → parts_sum ts < m →
        sum_map (λ i. sum_taken (machine rules p) gives (spot i) ts) (up_to m) ≡ sum_map (λ x. opt_share f (item_given x.item.time (arrived (arrival p x.place x.item) (InputTopic t)))) ts
    unfolding parts_sum
    all_taken m [] lt = sum_map-zero (up_to m)
    all_taken m (x ∷ ts) lt = sum_map-add (λ i. cond (same_place (spot i) x.place) (gives x.item) 0) (λ i. sum_taken (machine rules p) gives (spot i) ts) (up_to m)
        ∙ ap₂ (λ a b. a + b) (one_taken x m (omega arith)) (all_taken m ts (omega arith))

    -- one record of the job, over all partitions
    all_records : (m : ℕ) (rs : List Input) → records_sum rs < m → sum_map (λ i. sum_map gives (map item_of_input (filter (stands_at rules p (spot i)) rs))) (up_to m) ≡ sum_map given_by (of_topic t rs)
    unfolding records_sum
    all_records m [] lt = sum_map-zero (up_to m)
    all_records m (r ∷ rs) lt =
        let j = part_of_key rules p (InputTopic r.topic) r.key in
        let rest = all_records m rs (omega arith) in
        sum_map-same _ (λ i. cond (stands_at rules p (spot i) r) (given_by r) 0 + sum_map gives (map item_of_input (filter (stands_at rules p (spot i)) rs))) (up_to m) (λ i. one i)
        ∙ sum_map-add (λ i. cond (stands_at rules p (spot i) r) (given_by r) 0) (λ i. sum_map gives (map item_of_input (filter (stands_at rules p (spot i)) rs))) (up_to m)
        ∙ elim (nat_eq r.topic t) as (λ b. nat_eq r.topic t ≡ b →
        sum_map (λ i. cond (b && is_read p r.topic && nat_eq j i) (given_by r) 0) (up_to m) + sum_map (λ i. sum_map gives (map item_of_input (filter (stands_at rules p (spot i)) rs))) (up_to m)
        ≡ sum_map given_by (cond b (r ∷ of_topic t rs) (of_topic t rs))) [
          | true ↦ λ b.
              let is_here : is_read p r.topic ≡ true = ap (is_read p) ((Decides-eqb r.topic t).0 b) ∙ read in
              ap₂ (λ a c. a + c) (sum_map-same _ (λ i. cond (nat_eq j i) (given_by r) 0) (up_to m) (λ i. ap (λ c. cond (c && nat_eq j i) (given_by r) 0) is_here) ∙ once_below j (given_by r) m (omega arith)) rest
          | false ↦ λ b. ap₂ (λ a c. a + c) (sum_map-zero (up_to m)) rest ∙ zero_sum _
        ] refl
      where
        zero_sum : (n : ℕ) → 0 + n ≡ n
        zero_sum n = omega arith

        given : (v : Option _) → opt_share f (item_given r.time (Some (Given r.key v))) ≡ opt_share f (option_map (λ w. record { key = r.key; row = w; time = r.time }) v)
        given None = refl
        given (Some w) = refl

        one : (i : ℕ) → sum_map gives (map item_of_input (filter (stands_at rules p (spot i)) (r ∷ rs))) ≡ cond (stands_at rules p (spot i) r) (given_by r) 0 + sum_map gives (map item_of_input (filter (stands_at rules p (spot i)) rs))
        one i = elim (stands_at rules p (spot i) r) as (λ b. sum_map gives (map item_of_input (cond b (r ∷ filter (stands_at rules p (spot i)) rs) (filter (stands_at rules p (spot i)) rs)))
            ≡ cond b (given_by r) 0 + sum_map gives (map item_of_input (filter (stands_at rules p (spot i)) rs))) [
              | true ↦ ap (λ n. n + sum_map gives (map item_of_input (filter (stands_at rules p (spot i)) rs))) (given r.value)
              | false ↦ sym (zero_sum _)
            ]

    spot_taken : (i : ℕ) → sum_taken (machine rules p) gives (spot i) st.taken ≡ sum_map gives (inputs_of rules p records (spot i))
    spot_taken i =
        let follows = Follows-run (machine rules p) (names rules p) (inputs_of rules p records) schedule in
        let once : (s : Option TaskId) → (times (machine rules p) s (None ∷ []) ≡ 1) ⊎ (received (machine rules p) s (spot i) st.taken ≡ []) = λ s. from_none s follows in
        by_senders (machine rules p) (names rules p) gives (spot i) (None ∷ []) st.taken once ∙ sum_zero _
        ∙ ap (sum_map gives) (received_all (machine rules p) (names rules p) (inputs_of rules p records) st follows None (spot i) (drained None (spot i) refl))
      where
        sum_zero : (n : ℕ) → n + 0 ≡ n
        sum_zero n = omega arith

        from_none : (s : Option TaskId) → Follows (machine rules p) (inputs_of rules p records) st → (times (machine rules p) s (None ∷ []) ≡ 1) ⊎ (received (machine rules p) s (spot i) st.taken ≡ [])
        from_none None h = inl refl
        from_none (Some u) h = inr (inputs_alone rules p (inputs_of rules p records) st h u t i)

    source_items : sum_map (λ x. opt_share f (item_given x.item.time (arrived (arrival p x.place x.item) (InputTopic t)))) st.taken ≡ sum_map given_by (of_topic t records)
    source_items =
        let m = suc (parts_sum st.taken + records_sum records) in
        sym (all_taken m st.taken (omega arith)) ∙ sum_map-same _ _ (up_to m) spot_taken ∙ all_records m records (omega arith)

  -- ---- each node
  abbrev arriving : Taken TaskId Place Item → Arrival
  arriving x = arrival p x.place x.item

  step_item : (n : ℕ) (k : Kind) → Stands_at n k 0 p.kinds → (x : Taken TaskId Place Item) →
      (then : ℕ → Option StreamItem) × (item_of_step p n x ≡ item_at (arriving x) then k) × ((c : ℕ) → c < n → then c ≡ item_of_step p c x)
  step_item n k s x = item_is (arriving x) (λ m. None) 0 p.kinds n k s

  -- a node that passes on what its input gives
  passes : (n g : ℕ) (k : Kind) → Stands_at n k 0 p.kinds → g < n → (turn : StreamItem → Option StreamItem) →
      ((y : Arrival) (items : ℕ → Option StreamItem) → item_at y items k ≡ option_and_then turn (items g)) →
      (query p records).items n ≡ some_of turn ((query p records).items g) → ItemsRest g → ItemsRest n
  passes n g k s lt turn acts answer h f =
      sum_map-same _ (λ x. opt_share (λ y. opt_share f (turn y)) (item_of_step p g x)) st.taken (λ x.
      let here = step_item n k s x in
      ap (opt_share f) (here.1 ∙ acts (arriving x) here.0 ∙ ap (option_and_then turn) (here.2 g lt)) ∙ opt_then f turn (item_of_step p g x))
      ∙ h (λ y. opt_share f (turn y)) ∙ sym (some_then f turn ((query p records).items g)) ∙ ap (sum_map f) (sym answer)

  -- a node that is no stream
  gives_none : (n : ℕ) (k : Kind) → Stands_at n k 0 p.kinds → ((y : Arrival) (items : ℕ → Option StreamItem) → item_at y items k ≡ None) → ((b : Answers) → (answer_node records b n k).items n ≡ b.items n) → ItemsRest n
  gives_none n k s none same f =
      sum_map-same _ (λ x. 0) st.taken (λ x. let here = step_item n k s x in ap (opt_share f) (here.1 ∙ none (arriving x) here.0)) ∙ sum_map-zero st.taken
      ∙ ap (sum_map f) (sym (items_none records no_answers 0 p.kinds n k s same))

  source_gives : (t : ℕ) (f : StreamItem → ℕ) (rs : List Input) → sum_map (λ r. opt_share f (item_of r)) (of_topic t rs) ≡ sum_map f (some_of item_of (of_topic t rs))
  source_gives t f rs = all (of_topic t rs)
    where
      one : (y : Option StreamItem) (m : ℕ) (xs : List StreamItem) → m ≡ sum_map f xs → opt_share f y + m ≡ sum_map f (with_some y xs)
      one None m xs e = zero_sum m ∙ e
        where
          zero_sum : (n : ℕ) → 0 + n ≡ n
          zero_sum n = omega arith
      one (Some y) m xs e = ap (λ n. f y + n) e

      all : (rs : List Input) → sum_map (λ r. opt_share f (item_of r)) rs ≡ sum_map f (some_of item_of rs)
      all [] = refl
      all (r ∷ rs) = one (item_of r) _ (some_of item_of rs) (all rs)

  node_items : (n : ℕ) (k : Kind) → Stands_at n k 0 p.kinds → NodeFits p n k → ((c : ℕ) → c < n → ItemsRest c) → ItemsRest n
  node_items n (StreamSource t) s h before = λ f.
      let answer = query_at records p n (StreamSource t) s in
      sum_map-same _ (λ x. opt_share f (item_given x.item.time (arrived (arriving x) (InputTopic t)))) st.taken (λ x. let here = step_item n (StreamSource t) s x in ap (opt_share f) here.1)
      ∙ source_items t h.read f ∙ source_gives t f records ∙ ap (sum_map f) (sym (answer.items ∙ given_here records answer.then.items n _))
  node_items n (StreamFilter g test) s h before =
      let answer = query_at records p n (StreamFilter g test) s in
      passes n g (StreamFilter g test) s h.before (filter_item test) (λ y items. refl) (answer.items ∙ given_here records answer.then.items n _ ∙ ap (some_of (filter_item test)) (answer.before.items g h.before)) (before g h.before)
  node_items n (StreamMap g set) s h before =
      let answer = query_at records p n (StreamMap g set) s in
      passes n g (StreamMap g set) s h.before (map_item set) (λ y items. refl) (answer.items ∙ given_here records answer.then.items n _ ∙ ap (some_of (map_item set)) (answer.before.items g h.before)) (before g h.before)
  node_items n (KeySelected g key) s h before =
      let answer = query_at records p n (KeySelected g key) s in
      passes n g (KeySelected g key) s h.before (rekey_item key) (λ y items. refl) (answer.items ∙ given_here records answer.then.items n _ ∙ ap (some_of (rekey_item key)) (answer.before.items g h.before)) (before g h.before)
  node_items n (TableSource t) s h before = gives_none n (TableSource t) s (λ y items. refl) (λ b. refl)
  node_items n (TableFilter g x) s h before = gives_none n (TableFilter g x) s (λ y items. refl) (λ b. refl)
  node_items n (TableMap g x) s h before = gives_none n (TableMap g x) s (λ y items. refl) (λ b. refl)
  node_items n (StreamAggregate g by field through) s h before = gives_none n (StreamAggregate g by field through) s (λ y items. refl) (λ b. refl)
  node_items n (TableAggregate g by field) s h before = gives_none n (TableAggregate g by field) s (λ y items. refl) (λ b. refl)
  node_items n (Windowed g by w through) s h before = gives_none n (Windowed g by w through) s (λ y items. refl) (λ b. refl)
  node_items n (KeyJoin l r kind set) s h before = gives_none n (KeyJoin l r kind set) s (λ y items. refl) (λ b. refl)
  node_items n (ForeignKeyJoin l r fk kind set) s h before = gives_none n (ForeignKeyJoin l r fk kind set) s (λ y items. refl) (λ b. refl)

  items_up_to : (before : List Kind) (ks : List Kind) → p.kinds ≡ before ++ ks → ((c : ℕ) → c < length before → ItemsRest c) → (c : ℕ) → c < length p.kinds → ItemsRest c
  items_up_to before [] all h c lt = h c (omega (arith, ap length (all ∙ append-nil before)))
  items_up_to before (k ∷ ks) all h c lt =
      let here : Stands_at (length before) k 0 p.kinds = subst (Stands_at (length before) k 0) (sym all) (subst (λ m. Stands_at m k 0 (before ++ k ∷ ks)) (omega arith) (stands_after 0 before k ks)) in
      items_up_to (before ++ k ∷ []) ks (all ∙ sym (append_assoc before (k ∷ []) ks)) (λ c lt. ⊎_elim
      (λ (less : c < length before). h c less)
      (λ ge.
      let is : c ≡ length before = omega (arith, length-append before (k ∷ [])) in
      subst ItemsRest (sym is) (node_items (length before) k here (each_at p 0 p.kinds (length before) k fits here) h))
      (cases_lt c (length before))) c lt

  -- the items of each node of the plan
  pub items_rest : (c : ℕ) → c < length p.kinds → ItemsRest c
  items_rest = items_up_to [] p.kinds refl (λ c lt. absurd (omega arith))
