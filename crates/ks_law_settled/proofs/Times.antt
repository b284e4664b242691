-- In every state: what waits is in time, no task has seen a greater time than its items have, and nothing was late.
use Rattle.std.proofs.Common.{◌≡◌, ℕ, zero, suc, ◌+◌, Bool, true, false, cond, ◌&&◌, List, length, [], ◌∷◌, ◌++◌, map, get_or, slice_get, Option, Some, None, refl, sym, ap, ap₂, subst, ◌∙◌, arith, nat_eq, append_assoc, length-append}
use Rattle.std.specs.List.{filter}
use Rattle.std.proofs.lemmas.Option.{get_or_from_slice_get}
use Rattle.std.proofs.lemmas.Bool.{and_parts}
use Rattle.ks_record.specs.declared.record.TaskId.{TaskId}
use Rattle.ks_record.specs.Parts.{same_task}
use Rattle.ks_expr.specs.Eval.{Row}
use Rattle.ks_expr.specs.declared.terms.Fk.{Fk}
use Rattle.ks_plan.specs.Drafts.{Name}
use Rattle.ks_plan.specs.Plan.{Plan, Kind, Window, plan_of}
use Rattle.ks_plan.specs.Plan.Kind.{StreamSource, TableSource, StreamFilter, TableFilter, StreamMap, TableMap, KeySelected, StreamAggregate, TableAggregate, Windowed, KeyJoin, ForeignKeyJoin}
use Rattle.ks_plan.specs.Layout.{same_topic, kind_at, no_kind, is_read}
use Rattle.ks_plan.specs.declared.node.Topic.{Topic}
use Rattle.ks_plan.specs.declared.node.Topic.TheVariants.{Input as InputTopic, Repartition, Subscriptions, Changelog, HashChangelog}
use Rattle.ks_wire.specs.declared.values.Delta.{Delta}
use Rattle.ks_def_runs.specs.FinMap as fin
use Rattle.ks_def_runs.specs.Run.{Machine, sent_to, is_from, same_channel, of_input, take_first, initial}
use Rattle.ks_def_runs.proofs.Runs.{kept_by_run}
use Rattle.ks_query.specs.Streams.{Key, Input, StreamItem, group_key, grouped}
use Rattle.ks_query.specs.Query.{query, with_number}
use Rattle.ks_query.specs.Grace.{greatest_time, all_in_time}
use Rattle.ks_query.specs.Aggregates.{table_parts}
use Rattle.ks_def_tasks.specs.Messages.{Place, same_place, Message, Item, Store, Rules, Subscription}
use Rattle.ks_def_tasks.specs.Messages.Message.{Given, Keyed, Moved, Asked, Answered, Kept, KeptCount, KeptTime, KeptHash}
use Rattle.ks_def_tasks.specs.Collision.{In}
use Rattle.ks_def_tasks.specs.Windowed.{Counted}
use Rattle.ks_def_tasks.specs.Foreign.{subscriptions, answer_all, Sending}
use Rattle.ks_def_tasks.specs.Step.{Arrival, Sent, Written, Values, arrived, step_key, item_given, item_keyed, item_at, items_from, item_into, row_in, changed, sends_at, join_sends, regroup, keyed_to, send_deltas, send_subscriptions, send_responses, answer_one, write_all, changes_at, counted_at, over_nodes, late_over, olds_at, news_at, whole_step, value_changes, hash_changes}
use Rattle.ks_def_tasks.specs.Tasks.{arrival, machine, step, inputs_of, item_of_input, stands_at, part_of_key, sent_item, written_item, names_at, to_part}
use Rattle.ks_def_tasks.proofs.Each.{AllOf, all_append, all_cond}
use Rattle.ks_def_tasks.proofs.Names.{same_place-is}
use Rattle.ks_law_quiescence.specs.States.{State, state_of}
use Rattle.ks_law_topology.proofs.Fits.{Fits, NodeFits, EachFits}
use Rattle.ks_law_topology.proofs.Placed.{topic-is}
use Rattle.ks_law_topology.proofs.WellFormed.{well_formed_fits}
use Rattle.ks_law_quiescence.proofs.WindowsRest as rest
use Rattle.ks_law_settled.specs.InTime.{AtMost, TimesAreOfItems, NothingIsLate}
use Rattle.ks_law_settled.proofs.Members.{all_in, item_in, HasTime, has_time, at_most, is_open_then}
use Rattle.ks_law_settled.proofs.Counting as counting

-- ---- nodes at their numbers
abbrev AtPlace : Plan → ℕ → List Kind → Type 0
AtPlace p n [] = Unit {0}
AtPlace p n (k ∷ ks) = (kind_at p n ≡ k) × AtPlace p (suc n) ks

get_end : (xs : List Kind) (x : Kind) (ys : List Kind) → get_or (xs ++ x ∷ ys) (length xs) no_kind ≡ x
get_end [] x ys = refl
get_end (y ∷ xs) x ys = get_end xs x ys

at_places : (p : Plan) (before ks : List Kind) → p.kinds ≡ before ++ ks → (n : ℕ) → n ≡ length before → AtPlace p n ks
at_places p before [] is n e = tt
at_places p before (k ∷ ks) is n e = (
  ap₂ (λ (l : List Kind) (m : ℕ). get_or l m no_kind) is e ∙ get_end before k ks,
  at_places p (before ++ k ∷ []) ks (is ∙ sym (append_assoc before (k ∷ []) ks)) (suc n) (omega (arith, e, length-append before (k ∷ []))),
)

same_some : {A : Type 0} {x y : A} → Some x ≡ Some y → x ≡ y
same_some e = cc

-- ---- what arrives elsewhere than at an input topic is no item
abbrev IsInput : Topic → Type 0
IsInput (InputTopic t) = Unit {0}
IsInput _ = ⊥

no_items : (a : Arrival) → (IsInput a.topic → ⊥) → (items : ℕ → Option StreamItem) → ((c : ℕ) → items c ≡ None) → (n : ℕ) (ks : List Kind) (c : ℕ) → items_from a items n ks c ≡ None
no_items a away items h n [] c = h c
no_items a away items h n (k ∷ ks) c = no_items a away (with_number items n (item_at a items k)) (λ c. by c (nat_eq c n)) (suc n) ks c
  where
    elsewhere : (t : ℕ) → same_topic a.topic (InputTopic t) ≡ false
    elsewhere t = of (same_topic a.topic (InputTopic t)) refl
      where
        of : (b : Bool) → same_topic a.topic (InputTopic t) ≡ b → b ≡ false
        of true e = absurd (away (subst IsInput (sym (topic-is a.topic (InputTopic t) e)) tt))
        of false e = refl

    here : (k : Kind) → item_at a items k ≡ None
    here (StreamSource t) = ap (λ b. item_given a.item.time (cond b (Some a.item.message) None)) (elsewhere t)
    here (StreamFilter f x) = ap (λ (o : Option StreamItem). item_at a (λ c. o) (StreamFilter f x)) (h f)
    here (StreamMap f s) = ap (λ (o : Option StreamItem). item_at a (λ c. o) (StreamMap f s)) (h f)
    here (KeySelected f k) = ap (λ (o : Option StreamItem). item_at a (λ c. o) (KeySelected f k)) (h f)
    here (TableSource t) = refl
    here (TableFilter f x) = refl
    here (TableMap f s) = refl
    here (StreamAggregate f by field through) = refl
    here (TableAggregate f by field) = refl
    here (Windowed f by w through) = refl
    here (KeyJoin l r kind s) = refl
    here (ForeignKeyJoin l r fk kind s) = refl

    by : (c : ℕ) (b : Bool) → cond b (item_at a items k) (items c) ≡ None
    by c true = here k
    by c false = h c

module _ (rules : Rules) (p : Plan) (fits : Fits p) (records : List Input) where
  abbrev items_of : ℕ → List StreamItem
  items_of f = (query p records).items f

  abbrev its : Place → Item → ℕ → Option StreamItem
  its q x = items_from (arrival p q x) (λ m. None) 0 p.kinds

  -- a record whose items at a windowed count have times of its grouped items
  pub record OnTime (q : Place) (x : Item) : Type 0 where
    pub passed : (n f : ℕ) (by : Option Name) (w : Window) (through : Bool) → kind_at p n ≡ Windowed f by w through → (y : StreamItem) (g : Key) → its q x f ≡ Some y → group_key by y ≡ Some g → HasTime by (items_of f) y.time
    pub regrouped : (n f : ℕ) (by : Option Name) (w : Window) (through : Bool) → kind_at p n ≡ Windowed f by w through → q.topic ≡ Repartition n → (g : Key) (row : Row) → x.message ≡ Keyed g row → HasTime by (items_of f) x.time

  -- ---- elsewhere than at an input topic and the repartition topic of a windowed count nothing is asked
  away : (q : Place) (x : Item) → (IsInput q.topic → ⊥) →
      ((n f : ℕ) (by : Option Name) (w : Window) (through : Bool) → kind_at p n ≡ Windowed f by w through → q.topic ≡ Repartition n → (g : Key) (row : Row) → x.message ≡ Keyed g row → HasTime by (items_of f) x.time) → OnTime q x
  away q x input h = record {
    passed = λ n f by w through is y g e k. none (sym (no_items (arrival p q x) input (λ m. None) (λ c. refl) 0 p.kinds f) ∙ e);
    regrouped = h;
  }
    where
      none : {y : StreamItem} {P : Type 0} → None ≡ Some y → P
      none e = absurd cc

  abbrev Goes : Topic → Type 0
  Goes (InputTopic t) = ⊥
  Goes (Repartition n) = ⊥
  Goes _ = Unit {0}

  goes_away : (q : Place) (x : Item) → Goes q.topic → OnTime q x
  goes_away q x goes = away q x (λ h. no_input q.topic goes h) (λ n f by w through is e. absurd (subst Goes e goes))
    where
      no_input : (t : Topic) → Goes t → IsInput t → ⊥
      no_input (InputTopic t) g h = g
      no_input _ g h = h

  -- ---- the job's records
  given_on_time : (q : Place) (r : Input) → In r records → InputTopic r.topic ≡ q.topic → OnTime q (item_of_input r)
  given_on_time q r there is = subst (λ (t : Topic). OnTime (record { topic = t; part = q.part }) (item_of_input r)) is (record {
    passed = λ n f by w through k y g e group. has_time by (items_of f) y g (item_in records r (names_at p q.part) there p f y e) group;
    regrouped = λ n f by w through k e. absurd (not_regrouped e);
  })
    where
      not_regrouped : {n : ℕ} → InputTopic r.topic ≡ Repartition n → ⊥
      not_regrouped e = cc

  inputs_on_time : (q : Place) → AllOf (OnTime q) (inputs_of rules p records q)
  inputs_on_time q = each records (all_in records)
    where
      each : (rs : List Input) → AllOf (λ r. In r records) rs → AllOf (OnTime q) (map item_of_input (filter (stands_at rules p q) rs))
      each [] h = tt
      each (r ∷ rs) h = by (stands_at rules p q r) refl (each rs h.1)
        where
          by : (b : Bool) → stands_at rules p q r ≡ b → AllOf (OnTime q) (map item_of_input (filter (stands_at rules p q) rs)) → AllOf (OnTime q) (map item_of_input (cond b (r ∷ filter (stands_at rules p q) rs) (filter (stands_at rules p q) rs)))
          by true e more =
              let both = and_parts (same_topic (InputTopic r.topic) q.topic && is_read p r.topic) (nat_eq (part_of_key rules p (InputTopic r.topic) r.key) q.part) e in
              let first = and_parts (same_topic (InputTopic r.topic) q.topic) (is_read p r.topic) both.0 in
              (given_on_time q r h.0 (topic-is (InputTopic r.topic) q.topic first.0), more)
          by false e more = more

  -- a store whose greatest times are bounded
  abbrev Seen : Store → Type 0
  Seen s = (n f : ℕ) (by : Option Name) (w : Window) (through : Bool) → kind_at p n ≡ Windowed f by w through → AtMost (greatest_time (grouped by (items_of f))) (s.times n)

  abbrev InGrace : Type 0
  InGrace = (n f : ℕ) (by : Option Name) (w : Window) (through : Bool) → kind_at p n ≡ Windowed f by w through → all_in_time w (greatest_time (grouped by (items_of f))) (grouped by (items_of f)) ≡ true

  node_own : (n f : ℕ) (by : Option Name) (w : Window) (through : Bool) → kind_at p n ≡ Windowed f by w through → through ≡ false → by ≡ None
  node_own n f by w through is e = ((of_kind n p.kinds 0 fits is).2 e).0
    where
      of_kind : (i : ℕ) (ks : List Kind) (m : ℕ) → EachFits p m ks → get_or ks i no_kind ≡ Windowed f by w through → NodeFits p (m + i) (Windowed f by w through)
      of_kind i [] m h e = absurd cc
      of_kind zero (k ∷ ks) m h e = subst (λ j. NodeFits p j (Windowed f by w through)) (omega arith) (subst (NodeFits p m) e h.0)
      of_kind (suc i) (k ∷ ks) m h e = subst (λ j. NodeFits p j (Windowed f by w through)) (omega arith) (of_kind i ks (suc m) h.1 e)

  -- ---- what a step makes
  module _ (q : Place) (x : Item) (here : OnTime q x) (st : Store) where
    abbrev a : Arrival
    a = arrival p q x

    abbrev items : ℕ → Option StreamItem
    items = its q x

    -- an item that a windowed count takes
    enters : (n f : ℕ) (by : Option Name) (w : Window) (through : Bool) → kind_at p n ≡ Windowed f by w through → (through ≡ false → by ≡ None) →
        (y : StreamItem) → item_into a items n f through ≡ Some y → (g : Key) → y.key ≡ Some g → HasTime by (items_of f) y.time
    enters n f by w true is own y e g k = through (same_topic q.topic (Repartition n)) refl x.message refl e
      where
        through : (b : Bool) → same_topic q.topic (Repartition n) ≡ b → (m : Message) → x.message ≡ m → item_keyed x.time (cond b (Some m) None) ≡ Some y → HasTime by (items_of f) y.time
        through true t (Keyed h row) m i =
            let time : y.time ≡ x.time = ap (λ (z : StreamItem). z.time) (sym (same_some i)) in
            subst (HasTime by (items_of f)) (sym time) (here.regrouped n f by w true is (topic-is q.topic (Repartition n) t) h row m)
        through true t (Given h v) m i = absurd cc
        through true t (Moved h v) m i = absurd cc
        through true t (Asked h l v) m i = absurd cc
        through true t (Answered h v) m i = absurd cc
        through true t (Kept h v) m i = absurd cc
        through true t (KeptCount h v) m i = absurd cc
        through true t (KeptTime h) m i = absurd cc
        through true t (KeptHash h l v) m i = absurd cc
        through false t m n i = absurd cc
    enters n f by w false is own y e g k = here.passed n f by w false is y g e (ap (λ o. group_key o y) (own refl) ∙ k)

    -- what it sends
    abbrev SentOnTime : Sent → Type 0
    SentOnTime s = OnTime (record { topic = s.topic; part = to_part rules p s.topic s.key s.to }) (record { message = s.message; time = x.time })

    deltas : (n : ℕ) (ds : List (Key × Delta)) → AllOf SentOnTime (send_deltas n ds)
    deltas n [] = tt
    deltas n (d ∷ ds) = (away _ _ (λ h. h) (λ m f by w through is e g row k. absurd (not_keyed k)), deltas n ds)
      where
        not_keyed : {g : Key} {row : Row} → Moved d.0 d.1 ≡ Keyed g row → ⊥
        not_keyed k = cc

    asked : (n : ℕ) (k : Key) (ss : List (Key × Subscription)) → AllOf SentOnTime (send_subscriptions n k ss)
    asked n k [] = tt
    asked n k (s ∷ ss) = (goes_away _ _ tt, asked n k ss)

    answered : (n : ℕ) (rs : List Sending) → AllOf SentOnTime (send_responses n rs)
    answered n [] = tt
    answered n (r ∷ rs) = (goes_away _ _ tt, answered n rs)

    one_answer : (n r : ℕ) (m : Option Message) → AllOf SentOnTime (answer_one n st r m)
    one_answer n r None = tt
    one_answer n r (Some (Asked b l s)) = answered n _
    one_answer n r (Some _) = tt

    joined : (fk : Fk) (n l r : ℕ) (olds news : Values) (k : Option Key) → AllOf SentOnTime (join_sends rules fk (a.names n) n l r st olds news k)
    joined fk n l r olds news None = tt
    joined fk n l r olds news (Some k) =
        let ss = send_subscriptions n k (subscriptions rules.hash fk k (a.names n) (row_in olds l) (row_in news l)) in
        let rs = send_responses n (answer_all (row_in news r) (fin.entries (st.hashes n k))) in
        all_append SentOnTime (cond (changed olds news l) ss []) (cond (changed olds news r) rs [])
        (all_cond SentOnTime (changed olds news l) ss [] (asked n k _) tt)
        (all_cond SentOnTime (changed olds news r) rs [] (answered n _) tt)

    -- to the repartition topic of a node
    keyed : (n f : ℕ) (by : Option Name) → ((g : ℕ) (hy : Option Name) (w : Window) (through : Bool) → kind_at p n ≡ Windowed g hy w through → (g ≡ f) × (hy ≡ by)) →
        (y : StreamItem) → items f ≡ Some y → (o : Option Key) → group_key by y ≡ o → AllOf SentOnTime (keyed_to n y.row o)
    keyed n f by own y e None k = tt
    keyed n f by own y e (Some g) k = (away _ _ (λ h. h) there, tt)
      where
        there : (m h : ℕ) (hy : Option Name) (w : Window) (through : Bool) → kind_at p m ≡ Windowed h hy w through → Repartition n ≡ Repartition m → (c : Key) (row : Row) → Keyed g y.row ≡ Keyed c row → HasTime hy (items_of h) x.time
        there m h hy w through is t c row same =
            let number : n ≡ m = cc in
            let kind : kind_at p n ≡ Windowed h hy w through = ap (kind_at p) number ∙ is in
            let both = own h hy w through kind in
            let time : y.time ≡ x.time = rest.item_time a p f y e in
            let item : its q x h ≡ Some y = ap (its q x) both.0 ∙ e in
            let group : group_key hy y ≡ Some g = ap (λ o. group_key o y) both.1 ∙ k in
            subst (HasTime hy (items_of h)) time (here.passed n h hy w through kind y g item group)

    regroups : (n f : ℕ) (by : Option Name) → ((g : ℕ) (hy : Option Name) (w : Window) (through : Bool) → kind_at p n ≡ Windowed g hy w through → (g ≡ f) × (hy ≡ by)) →
        (o : Option StreamItem) → items f ≡ o → AllOf SentOnTime (regroup by n o)
    regroups n f by own None e = tt
    regroups n f by own (Some y) e = keyed n f by own y e (group_key by y) refl

    sends : (olds news : Values) (n : ℕ) (k : Kind) → kind_at p n ≡ k → AllOf SentOnTime (sends_at rules a items st olds news n k)
    sends olds news n (StreamAggregate f by field through) is = all_cond SentOnTime through (regroup by n (items f)) [] (regroups n f by (λ g hy w t e. absurd (other e)) (items f) refl) tt
      where
        other : {g : ℕ} {hy : Option Name} {w : Window} {t : Bool} → kind_at p n ≡ Windowed g hy w t → ⊥
        other {g} {hy} {w} {t} e = let same : StreamAggregate f by field through ≡ Windowed g hy w t = sym is ∙ e in cc
    sends olds news n (Windowed f by w through) is = all_cond SentOnTime through (regroup by n (items f)) [] (regroups n f by (λ g hy v t e. own e) (items f) refl) tt
      where
        own : {g : ℕ} {hy : Option Name} {v : Window} {t : Bool} → kind_at p n ≡ Windowed g hy v t → (g ≡ f) × (hy ≡ by)
        own {g} {hy} {v} {t} e = let same : Windowed g hy v t ≡ Windowed f by w through = sym e ∙ is in (cc, cc)
    sends olds news n (TableAggregate f by field) is = deltas n (table_parts by field (row_in olds f) (row_in news f))
    sends olds news n (ForeignKeyJoin l r fk kind s) is = all_append SentOnTime (join_sends rules fk (a.names n) n l r st olds news (step_key x.message)) (answer_one n st r (arrived a (Subscriptions n)))
        (joined fk n l r olds news (step_key x.message)) (one_answer n r (arrived a (Subscriptions n)))
    sends olds news n (StreamSource t) is = tt
    sends olds news n (TableSource t) is = tt
    sends olds news n (StreamFilter f y) is = tt
    sends olds news n (TableFilter f y) is = tt
    sends olds news n (StreamMap f s) is = tt
    sends olds news n (TableMap f s) is = tt
    sends olds news n (KeySelected f k) is = tt
    sends olds news n (KeyJoin l r kind s) is = tt

    all_sends : (olds news : Values) (n : ℕ) (ks : List Kind) → AtPlace p n ks → AllOf SentOnTime (over_nodes (sends_at rules a items st olds news) n ks)
    all_sends olds news n [] h = tt
    all_sends olds news n (k ∷ ks) h = all_append SentOnTime (sends_at rules a items st olds news n k) (over_nodes (sends_at rules a items st olds news) (suc n) ks) (sends olds news n k h.0) (all_sends olds news (suc n) ks h.1)

    -- what it writes goes to changelogs
    abbrev ToLog : Written → Type 0
    ToLog w = Goes w.topic

    logs : (t : Topic) → Goes t → (ms : List Message) → AllOf ToLog (write_all t ms)
    logs t g [] = tt
    logs t g (m ∷ ms) = (g, logs t g ms)

    all_logs : (olds news : Values) (n : ℕ) (ks : List Kind) → AllOf ToLog (over_nodes (changes_at a items st olds news) n ks)
    all_logs olds news n [] = tt
    all_logs olds news n (k ∷ ks) =
        let first = write_all (Changelog n) (value_changes (step_key x.message) (olds n) (news n) ++ (counted_at a items st n k).changes) in
        let second = write_all (HashChangelog n) (hash_changes st n (arrived a (Subscriptions n))) in
        all_append ToLog (changes_at a items st olds news n k) (over_nodes (changes_at a items st olds news) (suc n) ks)
        (all_append ToLog first second (logs (Changelog n) tt _) (logs (HashChangelog n) tt _)) (all_logs olds news (suc n) ks)

    abbrev MadeOnTime : Place × Item → Type 0
    MadeOnTime e = OnTime e.0 e.1

    sent_made : (ss : List Sent) → AllOf SentOnTime ss → AllOf MadeOnTime (map (sent_item rules p x.time) ss)
    sent_made [] h = tt
    sent_made (s ∷ ss) h = (h.0, sent_made ss h.1)

    written_made : (part : ℕ) (ws : List Written) → AllOf ToLog ws → AllOf MadeOnTime (map (written_item part x.time) ws)
    written_made part [] h = tt
    written_made part (w ∷ ws) h = (goes_away _ _ h.0, written_made part ws h.1)

    made : (u : TaskId) → AllOf MadeOnTime (step rules p u st q x).made
    made u =
        let m = whole_step rules p st a in
        let olds = olds_at st (step_key x.message) in
        let news = news_at rules p a items olds (step_key x.message) in
        all_append MadeOnTime (map (sent_item rules p x.time) m.sends) (map (written_item u.part x.time) m.changes)
        (sent_made m.sends (all_sends olds news 0 p.kinds (at_places p [] p.kinds refl 0 refl)))
        (written_made u.part m.changes (all_logs olds news 0 p.kinds))

    made_at : (u : TaskId) (w : Place) (es : List (Place × Item)) → AllOf MadeOnTime es → AllOf (OnTime w) (sent_to (machine rules p) w es)
    made_at u w [] h = tt
    made_at u w (e ∷ es) h = by (same_place w e.0) refl (made_at u w es h.1)
      where
        by : (b : Bool) → same_place w e.0 ≡ b → AllOf (OnTime w) (sent_to (machine rules p) w es) → AllOf (OnTime w) (cond b (e.1 ∷ sent_to (machine rules p) w es) (sent_to (machine rules p) w es))
        by true f more = (subst (λ (v : Place). OnTime v e.1) (sym ((same_place-is w e.0).0 f)) h.0, more)
        by false f more = more

    -- ---- times and late pairs
    seen_after : Seen st → (u : TaskId) → Seen (step rules p u st q x).store
    seen_after seen u n f by w through is =
        subst (λ (c : Counted). AtMost (greatest_time (grouped by (items_of f))) c.time) (sym (ap (counted_at a items st n) is))
        (counting.item_time w (greatest_time (grouped by (items_of f))) (st.times n) (st.counts n) (seen n f by w through is) (item_into a items n f through)
        (λ y e g k. at_most by (items_of f) y.time (enters n f by w through is (node_own n f by w through is) y e g k)))

    node_late : InGrace → Seen st → (n : ℕ) (k : Kind) → kind_at p n ≡ k → (counted_at a items st n k).late ≡ 0
    node_late grace seen n (Windowed f by w through) is =
        counting.item_late w (greatest_time (grouped by (items_of f))) (st.times n) (st.counts n) (seen n f by w through is) (item_into a items n f through)
        (λ y e g k. at_most by (items_of f) y.time (enters n f by w through is (node_own n f by w through is) y e g k))
        (λ y e g k. is_open_then w by (items_of f) y.time (grace n f by w through is) (enters n f by w through is (node_own n f by w through is) y e g k))
    node_late grace seen n (StreamSource t) is = refl
    node_late grace seen n (TableSource t) is = refl
    node_late grace seen n (StreamFilter f y) is = refl
    node_late grace seen n (TableFilter f y) is = refl
    node_late grace seen n (StreamMap f s) is = refl
    node_late grace seen n (TableMap f s) is = refl
    node_late grace seen n (KeySelected f k) is = refl
    node_late grace seen n (StreamAggregate f by field through) is = refl
    node_late grace seen n (TableAggregate f by field) is = refl
    node_late grace seen n (KeyJoin l r kind s) is = refl
    node_late grace seen n (ForeignKeyJoin l r fk kind s) is = refl

    nodes_late : InGrace → Seen st → (n : ℕ) (ks : List Kind) → AtPlace p n ks → late_over (counted_at a items st) n ks ≡ 0
    nodes_late grace seen n [] h = refl
    nodes_late grace seen n (k ∷ ks) h = ap₂ (λ c d. c + d) (node_late grace seen n k h.0) (nodes_late grace seen (suc n) ks h.1)

    step_late : InGrace → Seen st → (u : TaskId) → (step rules p u st q x).late ≡ 0
    step_late grace seen u = nodes_late grace seen 0 p.kinds (at_places p [] p.kinds refl 0 refl)

  -- ---- runs
  pub record Timed (st : State) : Type 0 where
    pub waiting : (s : Option TaskId) (w : Place) → AllOf (OnTime w) (st.waiting s w)
    pub seen : (u : TaskId) → Seen (st.stores u)

  abbrev net : Machine TaskId Place Store Item
  net = machine rules p

  list_cond : (w : Place) (b : Bool) (xs ys : List Item) → AllOf (OnTime w) xs → AllOf (OnTime w) ys → AllOf (OnTime w) (cond b xs ys)
  list_cond w b xs ys g h = all_cond (OnTime w) b xs ys g h

  module _ (st : State) (s : Option TaskId) (q : Place) (x : Item) (rest : List Item) (there : st.waiting s q ≡ x ∷ rest) (h : Timed st) where
    abbrev reader : TaskId
    reader = net.reader q

    both : AllOf (OnTime q) (x ∷ rest)
    both = subst (AllOf (OnTime q)) there (h.waiting s q)

    timed_taken : Timed (take_first net st s q (x ∷ rest))
    timed_taken = record {
      waiting = λ r w. all_append (OnTime w) (cond (same_channel net r w s q) rest (st.waiting r w)) (cond (is_from same_task r reader) (sent_to net w (step rules p reader (st.stores reader) q x).made) [])
          (left r w (same_channel net r w s q) refl)
          (list_cond w (is_from same_task r reader) (sent_to net w (step rules p reader (st.stores reader) q x).made) [] (made_at q x both.0 (st.stores reader) reader w (step rules p reader (st.stores reader) q x).made (made q x both.0 (st.stores reader) reader)) tt);
      seen = λ u. kept u (same_task u reader);
    }
      where
        left : (r : Option TaskId) (w : Place) (b : Bool) → same_channel net r w s q ≡ b → AllOf (OnTime w) (cond b rest (st.waiting r w))
        left r w true e = subst (λ v. AllOf (OnTime v) rest) (sym ((same_place-is w q).0 (and_parts _ (same_place w q) e).1)) both.1
        left r w false e = h.waiting r w

        kept : (u : TaskId) (b : Bool) → Seen (cond b (step rules p reader (st.stores reader) q x).store (st.stores u))
        kept u true = seen_after q x both.0 (st.stores reader) (h.seen reader) reader
        kept u false = h.seen u

    none_late : InGrace → st.late ≡ 0 → (take_first net st s q (x ∷ rest)).late ≡ 0
    none_late grace e = ap₂ (λ c d. c + d) e (step_late q x both.0 (st.stores reader) grace (h.seen reader) reader)

  timed_first : (st : State) (s : Option TaskId) (q : Place) (xs : List Item) → st.waiting s q ≡ xs → Timed st → Timed (take_first net st s q xs)
  timed_first st s q [] e h = h
  timed_first st s q (x ∷ rest) e h = timed_taken st s q x rest e h

  late_first : InGrace → (st : State) (s : Option TaskId) (q : Place) (xs : List Item) → st.waiting s q ≡ xs → Timed st → st.late ≡ 0 → (take_first net st s q xs).late ≡ 0
  late_first grace st s q [] e h z = z
  late_first grace st s q (x ∷ rest) e h z = none_late st s q x rest e h grace z

  at_start : Timed (initial net (inputs_of rules p records))
  at_start = record { waiting = lists; seen = λ u n f by w through is. tt }
    where
      lists : (s : Option TaskId) (w : Place) → AllOf (OnTime w) (of_input net s (inputs_of rules p records w))
      lists None w = inputs_on_time w
      lists (Some u) w = tt

  pub timed_run : (schedule : List (Option TaskId × Place)) → Timed (state_of rules p records schedule)
  timed_run schedule = kept_by_run net Timed (λ st c h. timed_first st c.0 c.1 (st.waiting c.0 c.1) refl h) (initial net (inputs_of rules p records)) at_start schedule

  pub late_run : InGrace → (schedule : List (Option TaskId × Place)) → (state_of rules p records schedule).late ≡ 0
  late_run grace schedule = (kept_by_run net (λ st. Timed st × (st.late ≡ 0))
      (λ st c h. (timed_first st c.0 c.1 (st.waiting c.0 c.1) refl h.0, late_first grace st c.0 c.1 (st.waiting c.0 c.1) refl h.0 h.1)) (initial net (inputs_of rules p records)) (at_start, refl) schedule).1

-- a windowed count of the plan by its number
windowed_there : (ks : List Kind) (n f : ℕ) (by : Option Name) (w : Window) (through : Bool) → get_or ks n no_kind ≡ Windowed f by w through → slice_get ks n ≡ Some (Windowed f by w through)
windowed_there [] n f by w through e = absurd cc
windowed_there (k ∷ ks) zero f by w through e = ap (λ (v : Kind). Some v) e
windowed_there (k ∷ ks) (suc n) f by w through e = windowed_there ks n f by w through e

pub times_are_of_items : TimesAreOfItems
times_are_of_items rules d records schedule well n f by w through is u =
    let p = plan_of d in
    (timed_run rules p (well_formed_fits d well) records schedule).seen u n f by w through (get_or_from_slice_get p.kinds n (Windowed f by w through) no_kind is)

pub nothing_is_late : NothingIsLate
nothing_is_late rules d records schedule well grace =
    let p = plan_of d in
    late_run rules p (well_formed_fits d well) records (λ n f by w through is. grace n f by w through (windowed_there p.kinds n f by w through is)) schedule
