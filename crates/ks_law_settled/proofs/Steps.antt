-- What one step of a plan makes: all of it fits, and so does what is stored.
use Rattle.std.proofs.Common.{◌≡◌, ℕ, zero, suc, ◌+◌, ◌<◌, ◌^◌, Bool, true, false, cond, List, length, [], ◌∷◌, ◌++◌, ◌||◌, map, slice_get, Option, Some, None, fold, refl, sym, ap, subst, ◌∙◌, arith, nat_eq, ◌⊎◌, not, inl, inr, ⊎_elim}
use Rattle.std.specs.Prelude.{option_map}
use Rattle.std.specs.Ordering.{eq_by_cmp}
use Rattle.std.specs.Cmp.Lexicographic.{nat_list_cmp_total}
use Rattle.std.proofs.lemmas.Bool.{true≢false}
use Rattle.std.proofs.lemmas.Bool.Decides.{Decides-eqb}
use Rattle.ks_record.specs.Texts.{IsKey}
use Rattle.ks_row.specs.Spelling.{FitsRow}
use Rattle.ks_record.specs.declared.record.TaskId.{TaskId}
use Rattle.ks_wire.specs.declared.values.Delta.{Delta}
use Rattle.ks_wire.specs.declared.values.Response.{Response}
use Rattle.ks_wire.specs.declared.values.Agg.{Agg}
use Rattle.ks_expr.specs.Eval.{Row, holds, project, joined, same_bytes}
use Rattle.ks_expr.specs.declared.terms.Fk.{Fk}
use Rattle.ks_plan.specs.declared.node.Topic.{Topic}
use Rattle.ks_plan.specs.declared.node.Topic.TheVariants.{Input, Repartition, Subscriptions, Responses, Changelog, HashChangelog}
use Rattle.ks_plan.specs.Plan.{Plan, Kind, Window, is_windowed, is_stream}
use Rattle.ks_plan.specs.Plan.Kind.{StreamSource, TableSource, StreamFilter, TableFilter, StreamMap, TableMap, KeySelected, StreamAggregate, TableAggregate, Windowed, KeyJoin, ForeignKeyJoin}
use Rattle.ks_plan.specs.Layout.{same_topic, parts_of, parts_of_topic, sub_of, kind_at, reads, tasks, is_drained, through_topics, right_of, before_of, spread_of_topic}
use Rattle.ks_def_runs.specs.FinMap as fin
use Rattle.ks_def_runs.specs.FinMap.{FinMap}
use Rattle.ks_def_runs.specs.Bytes.{by_bytes}
use Rattle.ks_def_runs.proofs.Tables.{get-write}
use Rattle.ks_query.specs.Streams.{Key, StreamItem, group_key}
use Rattle.ks_query.specs.Query.{with_number}
use Rattle.ks_query.specs.Windows.{windows}
use Rattle.ks_query.specs.Grace.{is_open}
use Rattle.ks_query.specs.Aggregates.{table_parts, stream_add}
use Rattle.ks_history.specs.State.{has_task}
use Rattle.ks_law_exactly_once.specs.Keeping.{AreHeld}
use Rattle.ks_def_tasks.specs.Messages.{Place, Stored, shown, Message, Subscription, Item, Store, Rules, same_row, same_option}
use Rattle.ks_def_tasks.specs.Messages.Message.{Given, Keyed, Moved, Asked, Answered, Kept, KeptCount, KeptTime, KeptHash}
use Rattle.ks_def_tasks.specs.Windowed.{Counted, greater, count_window, time_changes, count_group, count_item}
use Rattle.ks_def_tasks.specs.Foreign.{subscriptions, answer_all, answer_to, Sending, subscribe, key_of_row, subscribed, hash_by}
use Rattle.ks_def_tasks.specs.Step.{Arrival, Sent, Written, Values, row_in, changed, arrived, step_key, sends_at, send_deltas, send_subscriptions, send_responses, answer_of, answer_one, join_sends, regroup, keyed_to, write_all, value_changes, hash_changes, changes_at, over_nodes, whole_step, items_from, item_into, olds_at, news_at, value_at, values_from, tables_after, counted_at, subscribe_at}
use Rattle.ks_def_tasks.specs.Tasks.{arrival, step, taker, sent_item, written_item, to_part}
use Rattle.ks_def_tasks.specs.Bytes.{ByteStores, store_from, table_from, hashes_from}
use Rattle.ks_def_tasks.proofs.Each.{AllOf, all_append, all_cond}
use Rattle.ks_def_tasks.proofs.Names.{topic-is}
use Rattle.ks_law_topology.proofs.Placed.{Owned}
use Rattle.ks_law_topology.specs.Spelled.{IfThere}
use Rattle.ks_law_topology.proofs.Rows.{project_fits, joined_fits}
use Rattle.ks_law_topology.proofs.Writes.{kept, OfSub, written_all}
use Rattle.ks_def_tasks.proofs.Itself.{row_itself}
use Rattle.ks_law_kinds.specs.OfKind.{is_in_range}
use Rattle.ks_law_topology.specs.Work.{FitsRules, IsOfJoin}
use Rattle.ks_law_kinds.specs.Fitting.{FitsKind, holds_kind, FitsFk}
use Rattle.ks_law_kinds.proofs.Stores.{StoreFits, store_fits}
use Rattle.ks_law_kinds.proofs.Arriving.{MessageFits}
use Rattle.ks_law_kinds.proofs.Values.{ItemFits, ItemsFit, items_fit}
use Rattle.ks_law_kinds.proofs.Made.{AllDeltas, parts_fit as deltas_fit, AllAsked, asked_fit, AllAnswers, all_answers, answer_fits, one_answer, group_fits}
use Rattle.ks_law_kinds.proofs.Kept.{in_u64}
use Rattle.ks_law_settled.specs.Jobs.{HasParts}
use Rattle.ks_law_settled.proofs.Lists.{EachNode, each_both, at_node}
use Rattle.ks_law_settled.proofs.Topics.{IsTopic, IsPlace, through_topic}
use Rattle.ks_law_settled.proofs.Tasks.{has_node_task}
use Rattle.ks_law_settled.specs.Jobs.{NodesHaveParts}
use Rattle.ks_law_settled.proofs.Spelled.{TakesDeltas, TakesRows, Joins, FitsMessage, parts_fit, FitsStored, shown_fits, taken_fits, applied_fits, added_fits, rows_fit, kept_fits, test_fits, direct_fits, responded_fits}
use Rattle.ks_law_settled.proofs.WholeNodes.{Whole, NodeIs, nodes_are}
use Rattle.ks_law_settled.proofs.Agreeing.{MadeFits}
use Rattle.ks_wire.specs.Values.{IsPart}
use Rattle.ks_wire.specs.declared.values.Subscriber.{Subscriber}
use Rattle.ks_plan.specs.declared.node.Spread.{Spread}
use Rattle.ks_plan.specs.Drafts.{Name}
use Rattle.ks_expr.specs.Keys.{fk_of}
use Rattle.ks_law_topology.proofs.Each.{Each, each_parts}
use Rattle.ks_law_topology.proofs.Entries.{each_entry}
use Rattle.ks_law_topology.proofs.Fits.{Beside}
use Rattle.ks_def_tasks.specs.Messages.Instruction.{Delete, DeleteAndAnswer, Answer}
use Rattle.ks_def_tasks.specs.Step.To.{Named}
use Rattle.ks_def_runs.specs.Table.{write}

numbered : {A : Type 0} (P : ℕ → A → Type 0) (values : ℕ → A) (n : ℕ) (v : A) → ((c : ℕ) → P c (values c)) → P n v → (c : ℕ) → P c (with_number values n v c)
numbered P values n v h new c = elim (nat_eq c n) as (λ b. nat_eq c n ≡ b → P c (cond b v (values c))) [
  | true ↦ λ b. subst (λ m. P m v) (sym ((Decides-eqb c n).0 b)) new
  | false ↦ λ b. h c
] refl

get_within : (ks : List Kind) (n : ℕ) → n < length ks → (k : Kind) × (slice_get ks n ≡ Some k)
get_within [] n lt = absurd (omega (arith, lt))
get_within (k ∷ ks) zero lt = (k, refl)
get_within (k ∷ ks) (suc n) lt = get_within ks n (omega (arith, lt))

pub same_some : {A : Type 0} {x y : A} → Some x ≡ Some y → x ≡ y
same_some e = cc

rows_themselves : (r : Option Row) → same_option same_row r r ≡ true
rows_themselves None = refl
rows_themselves (Some r) = row_itself r

-- each subscription of a change names what it is told to
module _ (P : Option ℕ → Type 0) (hash : Row → ℕ) (fk : Fk) (k : Key) (part : Option ℕ) (one : P part) where
  abbrev Names : Key × Subscription → Type 0
  Names s = P s.1.part

  one_of : (b : Option Key) (s : Subscription) → P s.part → AllOf Names (subscribe b s)
  one_of None s h = tt
  one_of (Some b) s h = (h, tt)

  asks_of : (old new : Option Row) → AllOf Names (subscriptions hash fk k part old new)
  asks_of old None = one_of (key_of_row fk k old) (record { hash = None; instruction = DeleteAndAnswer; part = part }) one
  asks_of old (Some v) =
      let gone = subscribe (key_of_row fk k old) (record { hash = Some (hash v); instruction = Delete; part = part }) in
      let new = subscribe (fk_of fk k v) (record { hash = Some (hash v); instruction = Answer; part = part }) in
      let same = same_option same_bytes (key_of_row fk k old) (fk_of fk k v) in
      all_append Names (cond same [] gone) new (all_cond Names same [] gone tt (one_of (key_of_row fk k old) (record { hash = Some (hash v); instruction = Delete; part = part }) one))
      (one_of (fk_of fk k v) (record { hash = Some (hash v); instruction = Answer; part = part }) one)

module _ (rules : Rules) (p : Plan) where
  abbrev pub FitsItem : Place → Item → Type 0
  FitsItem q x = IsPlace p q × FitsMessage p q.topic x.message × (is_in_range x.time ≡ true)

  -- a record of a table's changelog has a key and a value that are read again
  abbrev pub FitsLog : Topic → Message → Type 0
  FitsLog (Changelog n) (Kept k w) = IsKey k × IfThere (FitsStored (kind_at p n)) w
  FitsLog (Changelog n) m = is_windowed (kind_at p n) ≡ true
  FitsLog t m = Unit {0}

  abbrev pub IsKept : Place → Item → Type 0
  IsKept q x = FitsLog q.topic x.message

  -- the bytes are of their kinds, what is stored has a spelling, and what a subscription store keeps names partitions of its join
  abbrev pub Held : TaskId → ByteStores → Type 0
  Held t stores = AreHeld (holds_kind p) t stores
      × ((n : ℕ) (k : Key) (x : Stored) → fin.get (table_from p t.sub stores n) k ≡ Some x → FitsStored (kind_at p n) x)
      × ((n : ℕ) (b k : Key) (x : Subscriber) → fin.get (hashes_from p t.sub stores n b) k ≡ Some x → IsOfJoin p n x.part)

  module _ (whole : Whole p) (has_parts : HasParts rules) (have : NodesHaveParts p) (good : FitsRules rules) where
    abbrev Nodes : ℕ → Kind → Type 0
    Nodes = NodeIs p whole

    all_nodes : EachNode Nodes 0 p.kinds
    all_nodes = nodes_are p whole

    pub node_at : (n : ℕ) → n < length p.kinds → (k : Kind) × Nodes n k
    node_at n lt = let k = get_within p.kinds n lt in (k.0, at_node Nodes p.kinds all_nodes n k.0 k.1)

    -- a partition of a topic that a node's tasks read
    place_below : (u : Topic) (m : ℕ) → m < length p.kinds → reads p u ≡ sub_of p m → parts_of_topic p u ≡ parts_of p m → IsTopic p u → (part : ℕ) → part < parts_of_topic p u → IsPlace p (record { topic = u; part = part })
    place_below u m within sub parts topic part below = record {
      topic = topic;
      task = subst (λ s. has_task (record { sub = s; part = part }) (tasks p) ≡ true) (sym sub) (has_node_task p whole.fits m part within (omega (arith, below, parts)));
      part = below;
    }

    -- that of a key
    place_at_key : (u : Topic) (m : ℕ) → m < length p.kinds → reads p u ≡ sub_of p m → parts_of_topic p u ≡ parts_of p m → IsTopic p u → (k : Key) → IsPlace p (record { topic = u; part = rules.part k (spread_of_topic p u) })
    place_at_key u m within sub parts topic k =
        place_below u m within sub parts topic (rules.part k (spread_of_topic p u)) (has_parts k (spread_of_topic p u) (omega (arith, have m within, parts)))

    -- and one that is named
    place_named : (n : ℕ) → n < length p.kinds → IsTopic p (Responses n) → (k : Key) (part : Option ℕ) → IsOfJoin p n part → IsPlace p (record { topic = Responses n; part = to_part rules p (Responses n) k (Named part) })
    place_named n within topic k None h =
        let whole_key : Spread = record { parts = parts_of p n; before = None } in
        place_below (Responses n) n within refl refl topic (rules.part k whole_key) (has_parts k whole_key (have n within))
    place_named n within topic k (Some i) h = place_below (Responses n) n within refl refl topic i h

    module _ (t : TaskId) (stores : ByteStores) (q : Place) (x : Item) (takes : taker p q.topic ≡ t.sub) (held : Held t stores) (fit : FitsItem q x) where
      abbrev st : Store
      st = store_from p t.sub stores

      abbrev a : Arrival
      a = arrival p q x

      abbrev items : ℕ → Option StreamItem
      items = items_from a (λ n. None) 0 p.kinds

      abbrev key : Option Key
      key = step_key x.message

      abbrev pub news : Option Key → Values
      news k = news_at rules p a items (olds_at st k) k

      pub arrives : MessageFits x.message
      arrives = parts_fit p q.topic x.message fit.1

      pub in_time : x.time < 2 ^ 64
      in_time = in_u64 x.time fit.2

      pub its_fit : ItemsFit rules p a arrives in_time items
      its_fit = items_fit rules p a arrives in_time (λ n. None) (λ n. tt) 0 p.kinds whole.spelled

      pub st_fits : StoreFits p st
      st_fits = store_fits p t.sub stores held.0

      arrived_fits : (u : Topic) → IfThere (FitsMessage p u) (arrived a u)
      arrived_fits u = by (same_topic q.topic u) refl
        where
          by : (b : Bool) → same_topic q.topic u ≡ b → IfThere (FitsMessage p u) (cond b (Some x.message) None)
          by true e = subst (λ v. FitsMessage p v x.message) (topic-is q.topic u e) fit.1
          by false e = tt

      key_fits : IfThere IsKey key
      key_fits = by x.message arrives
        where
          by : (m : Message) → MessageFits m → IfThere IsKey (step_key m)
          by (Given k v) f = f.0
          by (Keyed g row) f = f.0
          by (Moved g d) f = f
          by (Asked b l s) f = tt
          by (Answered l r) f = f.0
          by (Kept k w) f = tt
          by (KeptCount w g) f = tt
          by (KeptTime u) f = tt
          by (KeptHash b l g) f = tt

      -- ---- values
      pub olds_fit : (k : Option Key) (c : ℕ) → IfThere (FitsStored (kind_at p c)) (olds_at st k c)
      olds_fit None c = tt
      olds_fit (Some k) c = by (fin.get (st.tables c) k) refl
        where
          by : (o : Option Stored) → fin.get (st.tables c) k ≡ o → IfThere (FitsStored (kind_at p c)) o
          by None e = tt
          by (Some y) e = held.1 c k y e

      row_there : (c : ℕ) (o : Option Stored) → IfThere (FitsStored (kind_at p c)) o → IfThere FitsRow (option_map shown o)
      row_there c None h = tt
      row_there c (Some y) h = shown_fits (kind_at p c) y h

      row_fits : (v : Values) → ((c : ℕ) → IfThere (FitsStored (kind_at p c)) (v c)) → (c : ℕ) → IfThere FitsRow (row_in v c)
      row_fits v h c = row_there c (v c) (h c)

      acts : (kind : Kind) (b : Bool) (new old : Option Stored) → IfThere (FitsStored kind) new → IfThere (FitsStored kind) old → IfThere (FitsStored kind) (cond b new old)
      acts kind true new old g h = g
      acts kind false new old g h = h

      value_fits : (k : Option Key) (new : Values) → ((c : ℕ) → IfThere (FitsStored (kind_at p c)) (new c)) → (n : ℕ) (kind : Kind) → FitsKind kind → IfThere (FitsStored kind) (olds_at st k n) →
          IfThere (FitsStored kind) (value_at rules a items (olds_at st k) new n kind)
      value_fits k new h n (TableSource u) f old = taken_fits u p (olds_at st k n) (arrived a (Input u)) old (arrived_fits (Input u))
      value_fits k new h n (TableFilter g test) f old = acts (TableFilter g test) (changed (olds_at st k) new g) _ (olds_at st k n)
          (kept_fits (FitsStored (TableFilter g test)) (λ row e. e) (λ v. cond (holds test v) (Some v) None) (λ row e. test_fits (holds test row) row e) (row_in new g) (row_fits new h g)) old
      value_fits k new h n (TableMap g set) f old = acts (TableMap g set) (changed (olds_at st k) new g) _ (olds_at st k n)
          (kept_fits (FitsStored (TableMap g set)) (λ row e. e) (λ v. project set (Some v) None) (λ row e. project_fits set (Some row) None f e tt) (row_in new g) (row_fits new h g)) old
      value_fits k new h n (StreamAggregate g by field through) f old = added_fits g by field through (olds_at st k n) (item_into a items n g through) old
      value_fits k new h n (TableAggregate g by field) f old = applied_fits n g by field p (olds_at st k n) (arrived a (Repartition n)) old (arrived_fits (Repartition n))
      value_fits k new h n (KeyJoin l r kind set) f old = acts (KeyJoin l r kind set) (changed (olds_at st k) new l || changed (olds_at st k) new r) _ (olds_at st k n)
          (rows_fit (FitsStored (KeyJoin l r kind set)) (λ row e. e) (joined kind set (row_in new l) (row_in new r)) (joined_fits kind set (row_in new l) (row_in new r) f (row_fits new h l) (row_fits new h r))) old
      value_fits k new h n (ForeignKeyJoin l r fk kind set) f old = acts (ForeignKeyJoin l r fk kind set) (changed (olds_at st k) new l) _ _
          (direct_fits l r fk kind set f.0 key (row_in (olds_at st k) l) (row_in new l) (olds_at st k n) (row_fits new h l) old)
          (responded_fits l r fk kind set f.0 rules p n (row_in new l) (row_fits new h l) (arrived a (Responses n)) (arrived_fits (Responses n)) (olds_at st k n) old)
      value_fits k new h n (StreamSource u) f old = old
      value_fits k new h n (StreamFilter g test) f old = old
      value_fits k new h n (StreamMap g set) f old = old
      value_fits k new h n (KeySelected g name) f old = old
      value_fits k new h n (Windowed g by w through) f old = old

      node_value_fits : (k : Option Key) (new : Values) → ((c : ℕ) → IfThere (FitsStored (kind_at p c)) (new c)) → (n : ℕ) (kind : Kind) → Nodes n kind → IfThere (FitsStored (kind_at p n)) (value_at rules a items (olds_at st k) new n kind)
      node_value_fits k new h n kind node = subst (λ v. IfThere (FitsStored v) (value_at rules a items (olds_at st k) new n kind)) (sym node.kind)
          (value_fits k new h n kind node.spelled (subst (λ v. IfThere (FitsStored v) (olds_at st k n)) node.kind (olds_fit k n)))

      values_fit : (k : Option Key) (new : Values) → ((c : ℕ) → IfThere (FitsStored (kind_at p c)) (new c)) → (n : ℕ) (ks : List Kind) → EachNode Nodes n ks → (c : ℕ) → IfThere (FitsStored (kind_at p c)) (values_from rules a items (olds_at st k) new n ks c)
      values_fit k new h n [] each c = h c
      values_fit k new h n (y ∷ ys) each c = values_fit k (with_number new n (value_at rules a items (olds_at st k) new n y))
          (numbered (λ c v. IfThere (FitsStored (kind_at p c)) v) new n (value_at rules a items (olds_at st k) new n y) h (node_value_fits k new h n y each.0)) (suc n) ys each.1 c

      pub news_fit : (k : Option Key) (c : ℕ) → IfThere (FitsStored (kind_at p c)) (news k c)
      news_fit None c = olds_fit None c
      news_fit (Some k) c = values_fit (Some k) (olds_at st (Some k)) (olds_fit (Some k)) 0 p.kinds all_nodes c

      -- a stream stores nothing
      abbrev IsStreamKept : Option Key → ℕ → Option Stored → Type 0
      IsStreamKept k c v = is_stream (kind_at p c) ≡ true → v ≡ olds_at st k c

      stream_value : (k : Option Key) (new : Values) (n : ℕ) (kind : Kind) → is_stream kind ≡ true → value_at rules a items (olds_at st k) new n kind ≡ olds_at st k n
      stream_value k new n (StreamSource u) e = refl
      stream_value k new n (StreamFilter g test) e = refl
      stream_value k new n (StreamMap g set) e = refl
      stream_value k new n (KeySelected g name) e = refl
      stream_value k new n _ e = cc

      streams_keep : (k : Option Key) (new : Values) → ((c : ℕ) → IsStreamKept k c (new c)) → (n : ℕ) (ks : List Kind) → EachNode Nodes n ks → (c : ℕ) → IsStreamKept k c (values_from rules a items (olds_at st k) new n ks c)
      streams_keep k new h n [] each c = h c
      streams_keep k new h n (y ∷ ys) each c = streams_keep k (with_number new n (value_at rules a items (olds_at st k) new n y))
          (numbered (IsStreamKept k) new n (value_at rules a items (olds_at st k) new n y) h (λ e. stream_value k new n y (sym (ap is_stream each.0.kind) ∙ e))) (suc n) ys each.1 c

      pub stream_stays : (k : Key) (c : ℕ) → is_stream (kind_at p c) ≡ true → news (Some k) c ≡ olds_at st (Some k) c
      stream_stays k c e = streams_keep (Some k) (olds_at st (Some k)) (λ c e. refl) 0 p.kinds all_nodes c e

      pub keeps : (k : Option Key) (c : ℕ) → (news k c ≡ olds_at st k c) ⊎ Owned rules p q.topic c
      keeps k c = kept rules p whole.fits a t.sub takes st k c

      -- ---- what is stored after the step
      pub stored_after : (k : Option Key) (n : ℕ) (c : Key) (y : Stored) → fin.get (tables_after st (news k) k n) c ≡ Some y → FitsStored (kind_at p n) y
      stored_after None n c y e = held.1 n c y e
      stored_after (Some k) n c y e = by (eq_by_cmp by_bytes c k) (sym (get-write nat_list_cmp_total (st.tables n) k (news (Some k) n) c) ∙ e)
        where
          by : (b : Bool) → cond b (news (Some k) n) (fin.get (st.tables n) c) ≡ Some y → FitsStored (kind_at p n) y
          by true g = subst (IfThere (FitsStored (kind_at p n))) g (news_fit (Some k) n)
          by false g = held.1 n c y g

      -- ---- the partition that is named: the task's, if any, and one of the join's where its left row changes
      names_few : (n : ℕ) → IsPart (a.names n)
      names_few n = by (before_of p n)
        where
          by : (o : Option Name) → IsPart (option_map (λ s. q.part) o)
          by None = tt
          by (Some s) = omega (arith, fit.0.part, whole.few q.topic)

      names_of_join : (n l : ℕ) → Beside p l n → Owned rules p q.topic l → IsOfJoin p n (a.names n)
      names_of_join n l beside o = by (before_of p n)
        where
          by : (o : Option Name) → IsOfJoin p n (option_map (λ s. q.part) o)
          by None = tt
          by (Some s) = omega (arith, fit.0.part, ap (λ (s : Spread). s.parts) o.spread, beside.parts)

      unchanged : (n : ℕ) → news key n ≡ olds_at st key n → changed (olds_at st key) (news key) n ≡ false
      unchanged n e = ap (λ w. not (same_option same_row (row_in (olds_at st key) n) (row_in (λ m. w) n))) e ∙ ap not (rows_themselves (row_in (olds_at st key) n))

      left_names : (n l : ℕ) → Beside p l n → (changed (olds_at st key) (news key) l ≡ false) ⊎ IsOfJoin p n (a.names n)
      left_names n l beside = ⊎_elim (λ (e : news key l ≡ olds_at st key l). inl (unchanged l e)) (λ (o : Owned rules p q.topic l). inr (names_of_join n l beside o)) (keeps key l)

      -- ---- what is sent
      abbrev SentFits : Sent → Type 0
      SentFits s = FitsItem (record { topic = s.topic; part = to_part rules p s.topic s.key s.to }) (record { message = s.message; time = x.time })

      deltas_sent : (n : ℕ) → n < length p.kinds → IsTopic p (Repartition n) → TakesDeltas (kind_at p n) → (ds : List (Key × Delta)) → AllDeltas p ds → AllOf SentFits (send_deltas n ds)
      deltas_sent n within topic kind [] h = tt
      deltas_sent n within topic kind (d ∷ ds) h = ((place_at_key (Repartition n) n within refl refl topic d.0, (kind, h.0.0, h.0.1), fit.2), deltas_sent n within topic kind ds h.1)

      keyed_sent : (n : ℕ) → n < length p.kinds → IsTopic p (Repartition n) → TakesRows (kind_at p n) → (row : Row) → FitsRow row → (g : Option Key) → IfThere IsKey g → AllOf SentFits (keyed_to n row g)
      keyed_sent n within topic kind row f None h = tt
      keyed_sent n within topic kind row f (Some g) h = ((place_at_key (Repartition n) n within refl refl topic g, (kind, h, f), fit.2), tt)

      regroup_sent : (n : ℕ) → n < length p.kinds → IsTopic p (Repartition n) → TakesRows (kind_at p n) → (by : Option (List ℕ)) (o : Option StreamItem) → IfThere ItemFits o → AllOf SentFits (regroup by n o)
      regroup_sent n within topic kind by None h = tt
      regroup_sent n within topic kind by (Some y) h = keyed_sent n within topic kind y.row h.row (group_key by y) (group_fits p by y h)

      through_sent : (n : ℕ) → n < length p.kinds → (through : Bool) → (through ≡ true → IsTopic p (Repartition n)) → TakesRows (kind_at p n) → (by : Option (List ℕ)) (o : Option StreamItem) → IfThere ItemFits o → AllOf SentFits (cond through (regroup by n o) [])
      through_sent n within true topic kind by o h = regroup_sent n within (topic refl) kind by o h
      through_sent n within false topic kind by o h = tt

      module _ (n l r : ℕ) (fk : Fk) (node : _) (within : n < length p.kinds) (is : kind_at p n ≡ node) (joins : Joins node) (right : right_of node ≡ r) (before : r < n) (asking : IsTopic p (Subscriptions n)) (answering : IsTopic p (Responses n)) where
        right_is : right_of (kind_at p n) ≡ r
        right_is = ap right_of is ∙ right

        asked_sent : (k : Key) → IsKey k → (ss : List (Key × Subscription)) → AllAsked p ss → AllOf (λ (s : Key × Subscription). IsOfJoin p n s.1.part) ss → AllOf SentFits (send_subscriptions n k ss)
        asked_sent k left [] h g = tt
        asked_sent k left (s ∷ ss) h g = (
          (place_at_key (Subscriptions n) r (omega (arith, before, within)) (ap (sub_of p) right_is) (ap (parts_of p) right_is) asking s.0, (subst Joins (sym is) joins, h.0.0, left, h.0.1, h.0.2, g.0), fit.2),
          asked_sent k left ss h.1 g.1,
        )

        answers_sent : (rs : List Sending) → AllAnswers p rs → AllOf (λ (r : Sending). IsOfJoin p n r.2) rs → AllOf SentFits (send_responses n rs)
        answers_sent [] h g = tt
        answers_sent (y ∷ ys) h g = ((place_named n within answering y.0 y.2 g.0, (h.0.0, h.0.1), fit.2), answers_sent ys h.1 g.1)

        -- the answers to all that is kept at a foreign key go to partitions of the join
        each_answer : (row : Option Row) (es : List (Key × Subscriber)) → Each (λ (e : Key × Subscriber). IsOfJoin p n e.1.part) es → AllOf (λ (r : Sending). IsOfJoin p n r.2) (answer_all row es)
        each_answer row [] h = tt
        each_answer row (e ∷ es) h = let parts = each_parts (λ (e : Key × Subscriber). IsOfJoin p n e.1.part) e es h in (parts.0, each_answer row es parts.1)

        kept_answers : (row : Option Row) (b : Key) → AllOf (λ (r : Sending). IsOfJoin p n r.2) (answer_all row (fin.entries (st.hashes n b)))
        kept_answers row b = each_answer row (fin.entries (st.hashes n b))
            (each_entry (λ (e : Key × Subscriber). IsOfJoin p n e.1.part) (fin.entries (st.hashes n b)) (fin.entries_sorted (st.hashes n b)) (λ k y f. held.2 n b k y (fin.get-entries (st.hashes n b) k ∙ f)))

        join_sent : FitsFk fk → (olds new : Values) → (changed olds new l ≡ false) ⊎ IsOfJoin p n (a.names n) → IfThere FitsRow (row_in olds l) → IfThere FitsRow (row_in new l) → IfThere FitsRow (row_in new r) → (k : Option Key) → IfThere IsKey k →
            AllOf SentFits (join_sends rules fk (a.names n) n l r st olds new k)
        join_sent foreign olds new left f g h None e = tt
        join_sent foreign olds new left f g h (Some k) e =
            let asks = subscriptions rules.hash fk k (a.names n) (row_in olds l) (row_in new l) in
            let answers = answer_all (row_in new r) (fin.entries (st.hashes n k)) in
            let ss = send_subscriptions n k asks in
            let rs = send_responses n answers in
            all_append SentFits (cond (changed olds new l) ss []) (cond (changed olds new r) rs [])
            (⊎_elim
            (λ (no : changed olds new l ≡ false). subst (λ b. AllOf SentFits (cond b ss [])) (sym no) tt)
            (λ (one : IsOfJoin p n (a.names n)). all_cond SentFits (changed olds new l) ss []
            (asked_sent k e asks (asked_fit p rules good fk foreign k e (a.names n) (names_few n) (row_in olds l) (row_in new l) f g) (asks_of (IsOfJoin p n) rules.hash fk k (a.names n) one (row_in olds l) (row_in new l))) tt)
            left)
            (all_cond SentFits (changed olds new r) rs [] (answers_sent answers (all_answers p (row_in new r) h (fin.entries (st.hashes n k)) (st_fits.hashes n k)) (kept_answers (row_in new r) k)) tt)

        right_row : (b : Key) → IfThere FitsRow (option_map shown (fin.get (st.tables r) b))
        right_row b = row_there r (fin.get (st.tables r) b) (olds_fit (Some b) r)

        one_of_join : (k : Key) (part : Option ℕ) → IsOfJoin p n part → (y : Option Response) → AllOf (λ (r : Sending). IsOfJoin p n r.2) (answer_of k part y)
        one_of_join k part h None = tt
        one_of_join k part h (Some y) = (h, tt)

        answer_sent : (m : Option Message) → IfThere (FitsMessage p (Subscriptions n)) m → AllOf SentFits (answer_one n st r m)
        answer_sent None h = tt
        answer_sent (Some (Asked b k s)) h =
            let right = option_map shown (fin.get (st.tables r) b) in
            answers_sent (answer_of k s.part (answer_to s right)) (one_answer p k h.2 s.part (answer_to s right) (answer_fits p s h.3 right (right_row b))) (one_of_join k s.part h.5 (answer_to s right))
        answer_sent (Some _) h = absurd h

      -- what a subscription store keeps after the step
      pub kept_join : (n : ℕ) (b k : Key) (y : Subscriber) → fin.get ((whole_step rules p st a).store.hashes n b) k ≡ Some y → IsOfJoin p n y.part
      kept_join n b k y = elim (same_topic q.topic (Subscriptions n)) as (λ t. same_topic q.topic (Subscriptions n) ≡ t → fin.get (subscribe_at (cond t (Some x.message) None) (st.hashes n) b) k ≡ Some y → IsOfJoin p n y.part) [
        | true ↦ λ t. by_message x.message (subst (λ v. FitsMessage p v x.message) (topic-is q.topic (Subscriptions n) t) fit.1)
        | false ↦ λ t e. held.2 n b k y e
      ] refl
        where
          of_hash : (s : Subscription) → IsOfJoin p n s.part → (h : Option ℕ) → option_map (λ h. record { hash = h; part = s.part }) h ≡ Some y → IsOfJoin p n y.part
          of_hash s e None f = absurd cc
          of_hash s e (Some h) f = subst (IsOfJoin p n) (ap (λ (w : Subscriber). w.part) (same_some {x = record { hash = h; part = s.part }} {y = y} f)) e

          by_message : (m : Message) → FitsMessage p (Subscriptions n) m → fin.get (subscribe_at (Some m) (st.hashes n) b) k ≡ Some y → IsOfJoin p n y.part
          by_message (Asked c m s) e = elim (same_bytes b c) as (λ t. fin.get (cond t (write by_bytes (st.hashes n b) m (subscribed s)) (st.hashes n b)) k ≡ Some y → IsOfJoin p n y.part) [
            | true ↦ λ f. (elim (eq_by_cmp by_bytes k m) as (λ t. cond t (subscribed s) (fin.get (st.hashes n b) k) ≡ Some y → IsOfJoin p n y.part) [
              | true ↦ λ g. of_hash s e.5 (hash_by s.instruction s.hash) g
              | false ↦ λ g. held.2 n b k y g
            ]) (sym (get-write nat_list_cmp_total (st.hashes n b) m (subscribed s) k) ∙ f)
            | false ↦ λ f. held.2 n b k y f
          ]
          by_message (Given g v) e = absurd e
          by_message (Keyed g v) e = absurd e
          by_message (Moved g v) e = absurd e
          by_message (Answered g v) e = absurd e
          by_message (Kept g v) e = absurd e
          by_message (KeptCount g v) e = absurd e
          by_message (KeptTime v) e = absurd e
          by_message (KeptHash g m v) e = absurd e

      abbrev Sends : ℕ → Kind → Type 0
      Sends n kind = Nodes n kind × AllOf (λ u. is_drained p u ≡ true → IsTopic p u) (through_topics n kind)

      node_sends : (n : ℕ) (kind : Kind) → Sends n kind → AllOf SentFits (sends_at rules a items st (olds_at st key) (news key) n kind)
      node_sends n (TableAggregate f by field) h = deltas_sent n h.0.within (h.1.0 refl) (subst TakesDeltas (sym h.0.kind) tt) (table_parts by field (row_in (olds_at st key) f) (row_in (news key) f))
          (deltas_fit p by field (row_in (olds_at st key) f) (row_in (news key) f) (row_fits (olds_at st key) (olds_fit key) f) (row_fits (news key) (news_fit key) f))
      node_sends n (StreamAggregate f by field through) h = through_sent n h.0.within through (drawn through h.1) (subst TakesRows (sym h.0.kind) tt) by (items f) (its_fit f)
        where
          drawn : (b : Bool) → AllOf (λ u. is_drained p u ≡ true → IsTopic p u) (cond b (Repartition n ∷ []) []) → b ≡ true → IsTopic p (Repartition n)
          drawn true g e = g.0 refl
          drawn false g e = absurd (true≢false (sym e))
      node_sends n (Windowed f by w through) h = through_sent n h.0.within through (drawn through h.1) (subst TakesRows (sym h.0.kind) tt) by (items f) (its_fit f)
        where
          drawn : (b : Bool) → AllOf (λ u. is_drained p u ≡ true → IsTopic p u) (cond b (Repartition n ∷ []) []) → b ≡ true → IsTopic p (Repartition n)
          drawn true g e = g.0 refl
          drawn false g e = absurd (true≢false (sym e))
      node_sends n (ForeignKeyJoin l r fk kind set) h =
          all_append SentFits (join_sends rules fk (a.names n) n l r st (olds_at st key) (news key) key) (answer_one n st r (arrived a (Subscriptions n)))
          (join_sent n l r fk (ForeignKeyJoin l r fk kind set) h.0.within h.0.kind tt refl h.0.fits.1 (h.1.0 refl) (h.1.1.0 refl) h.0.spelled.1 (olds_at st key) (news key) (left_names n l h.0.fits.0)
          (row_fits (olds_at st key) (olds_fit key) l) (row_fits (news key) (news_fit key) l) (row_fits (news key) (news_fit key) r) key key_fits)
          (answer_sent n l r fk (ForeignKeyJoin l r fk kind set) h.0.within h.0.kind tt refl h.0.fits.1 (h.1.0 refl) (h.1.1.0 refl) (arrived a (Subscriptions n)) (arrived_fits (Subscriptions n)))
      node_sends n (StreamSource u) h = tt
      node_sends n (TableSource u) h = tt
      node_sends n (StreamFilter f test) h = tt
      node_sends n (TableFilter f test) h = tt
      node_sends n (StreamMap f set) h = tt
      node_sends n (TableMap f set) h = tt
      node_sends n (KeySelected f name) h = tt
      node_sends n (KeyJoin l r kind set) h = tt

      all_sends : (n : ℕ) (ks : List Kind) → EachNode Sends n ks → AllOf SentFits (over_nodes (sends_at rules a items st (olds_at st key) (news key)) n ks)
      all_sends n [] h = tt
      all_sends n (k ∷ ks) h = all_append SentFits (sends_at rules a items st (olds_at st key) (news key) n k) (over_nodes (sends_at rules a items st (olds_at st key) (news key)) (suc n) ks) (node_sends n k h.0) (all_sends (suc n) ks h.1)

      through_logs : (ss : List Sent) → AllOf SentFits ss → AllOf (MadeFits FitsItem IsKept) (map (sent_item rules p x.time) ss)
      through_logs [] h = tt
      through_logs (s ∷ ss) h = ((λ e. h.0, λ e. absurd (true≢false (sym e ∙ h.0.0.topic.log))), through_logs ss h.1)

      -- ---- what is written
      abbrev WrittenFits : Written → Type 0
      WrittenFits w = FitsLog w.topic w.message

      abbrev LogFits : ℕ → Message → Type 0
      LogFits n m = FitsLog (Changelog n) m

      one_value : (n : ℕ) (k : Option Key) → IfThere IsKey k → (old new : Option Stored) → IfThere (FitsStored (kind_at p n)) new → AllOf (LogFits n) (value_changes k old new)
      one_value n None h old new f = tt
      one_value n (Some k) h old new f = all_cond (LogFits n) _ [] (Kept k new ∷ []) tt ((h, f), tt)

      one_window : (n : ℕ) → is_windowed (kind_at p n) ≡ true → (w : Window) (now : ℕ) (g : Key) (c : Counted) (s : ℕ) → AllOf (LogFits n) c.changes → AllOf (LogFits n) (count_window w now g c s).changes
      one_window n is w now g c s h = by (is_open w now s)
        where
          new : Agg
          new = stream_add None (fin.get c.counts (g, s)) []

          by : (b : Bool) → AllOf (LogFits n) (cond b
              (record c { counts = fin.insert c.counts (g, s) (stream_add None (fin.get c.counts (g, s)) []); changes = c.changes ++ KeptCount (g, s) (stream_add None (fin.get c.counts (g, s)) []) ∷ [] })
              (record c { late = c.late + 1 })).changes
          by true = all_append (LogFits n) c.changes (KeptCount (g, s) (stream_add None (fin.get c.counts (g, s)) []) ∷ []) h (is, tt)
          by false = h

      all_windows : (n : ℕ) → is_windowed (kind_at p n) ≡ true → (w : Window) (now : ℕ) (g : Key) (ss : List ℕ) (c : Counted) → AllOf (LogFits n) c.changes → AllOf (LogFits n) (fold (count_window w now g) c ss).changes
      all_windows n is w now g [] c h = h
      all_windows n is w now g (s ∷ ss) c h = all_windows n is w now g ss (count_window w now g c s) (one_window n is w now g c s h)

      of_item : (n : ℕ) → is_windowed (kind_at p n) ≡ true → (w : Window) (o : Option StreamItem) → AllOf (LogFits n) (count_item w (st.times n) (st.counts n) o).changes
      of_item n is w None = tt
      of_item n is w (Some y) = by y.key
        where
          by : (g : Option Key) → AllOf (LogFits n) (count_group w (st.times n) (st.counts n) y.time g).changes
          by None = tt
          by (Some g) = all_windows n is w (greater (st.times n) y.time) g (windows w y.time)
              (record { time = Some (greater (st.times n) y.time); counts = st.counts n; late = 0; changes = time_changes (st.times n) (greater (st.times n) y.time) })
              (all_cond (LogFits n) _ [] (KeptTime (greater (st.times n) y.time) ∷ []) tt (is, tt))

      node_counts : (n : ℕ) (kind : Kind) → kind_at p n ≡ kind → AllOf (LogFits n) (counted_at a items st n kind).changes
      node_counts n (Windowed f by w through) at = of_item n (ap is_windowed at) w (item_into a items n f through)
      node_counts n (StreamSource u) at = tt
      node_counts n (TableSource u) at = tt
      node_counts n (StreamFilter f y) at = tt
      node_counts n (TableFilter f y) at = tt
      node_counts n (StreamMap f s) at = tt
      node_counts n (TableMap f s) at = tt
      node_counts n (KeySelected f k) at = tt
      node_counts n (StreamAggregate f by field through) at = tt
      node_counts n (TableAggregate f by field) at = tt
      node_counts n (KeyJoin l r kind s) at = tt
      node_counts n (ForeignKeyJoin l r fk kind s) at = tt

      of_table : (n : ℕ) (ms : List Message) → AllOf (LogFits n) ms → AllOf WrittenFits (write_all (Changelog n) ms)
      of_table n [] h = tt
      of_table n (m ∷ ms) h = (h.0, of_table n ms h.1)

      of_hashes : (n : ℕ) (ms : List Message) → AllOf WrittenFits (write_all (HashChangelog n) ms)
      of_hashes n [] = tt
      of_hashes n (m ∷ ms) = (tt, of_hashes n ms)

      all_changes : (n : ℕ) (ks : List Kind) → EachNode Nodes n ks → AllOf WrittenFits (over_nodes (changes_at a items st (olds_at st key) (news key)) n ks)
      all_changes n [] each = tt
      all_changes n (k ∷ ks) each =
          let own = value_changes key (olds_at st key n) (news key n) in
          let hashes = hash_changes st n (arrived a (Subscriptions n)) in
          all_append WrittenFits (changes_at a items st (olds_at st key) (news key) n k) (over_nodes (changes_at a items st (olds_at st key) (news key)) (suc n) ks)
          (all_append WrittenFits (write_all (Changelog n) (own ++ (counted_at a items st n k).changes)) (write_all (HashChangelog n) hashes)
          (of_table n (own ++ (counted_at a items st n k).changes) (all_append (LogFits n) own (counted_at a items st n k).changes (one_value n key key_fits (olds_at st key n) (news key n) (news_fit key n)) (node_counts n k each.0.kind)))
          (of_hashes n hashes)) (all_changes (suc n) ks each.1)

      written_logs : (ws : List Written) → OfSub rules p t.sub ws → AllOf WrittenFits ws → AllOf (MadeFits FitsItem IsKept) (map (written_item t.part x.time) ws)
      written_logs [] h f = tt
      written_logs (w ∷ ws) h f = ((λ e. absurd (true≢false (sym h.0.0 ∙ e)), λ e. f.0), written_logs ws h.1 f.1)

      pub made_fit : AllOf (MadeFits FitsItem IsKept) (step rules p t st q x).made
      made_fit =
          let made = whole_step rules p st a in
          all_append (MadeFits FitsItem IsKept) (map (sent_item rules p x.time) made.sends) (map (written_item t.part x.time) made.changes)
          (through_logs made.sends (all_sends 0 p.kinds (each_both Nodes (λ n kind. AllOf (λ u. is_drained p u ≡ true → IsTopic p u) (through_topics n kind)) 0 p.kinds all_nodes (through_topic p))))
          (written_logs made.changes (written_all rules p whole.fits a t.sub takes st 0 p.kinds whole.fits) (all_changes 0 p.kinds all_nodes))
