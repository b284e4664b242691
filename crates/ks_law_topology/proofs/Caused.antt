-- What a task makes of a record goes to topics that come after the record's own.
use Rattle.std.proofs.Common.{◌≡◌, ℕ, suc, ◌+◌, ◌≤◌, ◌<◌, Bool, true, false, cond, not, ◌||◌, List, length, [], ◌∷◌, ◌++◌, map, Option, Some, None, refl, sym, ap, ap₂, subst, ◌∙◌, ◌⊎◌, inl, inr, ⊎_elim, arith, nat_eq}
use Rattle.std.specs.Prelude.{◌==◌, ℤ, option_and_then}
use Rattle.std.specs.List.{filter}
use Rattle.std.specs.Ordering.{is_eq}
use Rattle.std.specs.Cmp.{tied_itself, int_cmp_total}
use Rattle.std.specs.Cmp.Lexicographic.{nat_list_cmp_total}
use Rattle.std.proofs.lemmas.Bool.{and_parts, and_from}
use Rattle.std.proofs.lemmas.Bool.Decides.{Decides-eqb}
use Rattle.ks_row.specs.declared.row.Field.{Field}
use Rattle.ks_row.specs.declared.row.Field.TheVariants.{Int, Text}
use Rattle.ks_record.specs.Records.{Record as Rec}
use Rattle.ks_record.specs.declared.record.PartId.{PartId}
use Rattle.ks_record.specs.declared.record.TaskId.{TaskId}
use Rattle.ks_record.specs.Parts.{same_part}
use Rattle.ks_wire.specs.declared.values.Delta.{Delta}
use Rattle.ks_expr.specs.Eval.{Row, joined, same_field}
use Rattle.ks_expr.specs.declared.terms.Fk.{Fk}
use Rattle.ks_plan.specs.declared.node.Topic.{Topic}
use Rattle.ks_plan.specs.declared.node.Topic.TheVariants.{Input as InputTopic, Repartition, Subscriptions, Responses, Changelog, HashChangelog}
use Rattle.ks_plan.specs.Plan.{Plan, Kind, plan_of}
use Rattle.ks_plan.specs.Plan.Kind.{StreamSource, TableSource, StreamFilter, TableFilter, StreamMap, TableMap, KeySelected, StreamAggregate, TableAggregate, Windowed, KeyJoin, ForeignKeyJoin}
use Rattle.ks_plan.specs.Layout.{same_topic, topics_of, topic_at, number_of, reads}
use Rattle.ks_def_runs.specs.FinMap as fin
use Rattle.ks_query.specs.Streams.{Key, StreamItem, filter_item, map_item, rekey_item, group_key}
use Rattle.ks_query.specs.Query.{with_number}
use Rattle.ks_query.specs.Aggregates.{table_parts, share_under, same_share, deltas_of}
use Rattle.ks_def_runs.specs.Run.{sent_to}
use Rattle.ks_def_tasks.specs.Messages.{Place, Stored, Subscription, Message, Item, Store, Rules, same_row, same_option}
use Rattle.ks_def_tasks.specs.Messages.Message.{Asked}
use Rattle.ks_def_tasks.specs.Foreign.{Sending, subscriptions, answer_all}
use Rattle.ks_def_tasks.specs.Step.{Arrival, Sent, Written, Values, whole_step, row_in, changed, arrived, step_key, sends_at, changes_at, join_sends, regroup, keyed_to, send_deltas, send_subscriptions, send_responses, answer_one, write_all, over_nodes, items_from, item_at, item_into, item_given, item_keyed, taken_row, added, applied, responded, direct, of_row, olds_at, news_at, value_at, values_from}
use Rattle.ks_def_tasks.specs.Tasks.{arrival, step, sent_item, written_item, is_changelog}
use Rattle.ks_def_tasks.specs.Bytes.{ByteStores, step_at, step_read, nothing_made, message_in, store_from, spelled, part_id, is_sent}
use Rattle.ks_history.specs.Machine.{network}
use Rattle.ks_law_topology.proofs.Each.{Each, each_nothing, each_first, each_parts, Each-append, Each-map}
use Rattle.ks_law_topology.proofs.Fits.{Fits, NodeFits, EachFits}
use Rattle.ks_law_topology.proofs.Placed.{topic-is}
use Rattle.ks_law_topology.proofs.WellFormed.{well_formed_fits}
use Rattle.ks_law_topology.specs.Work.{work_of}
use Rattle.ks_law_topology.specs.Order.{IsInOrder}
use Rattle.ks_law_topology.proofs.Order.{rank, IsWithin, all_between, at_place, place_after, before_logs}

-- ---- what stays sends nothing
field_itself : (f : Field) → same_field f f ≡ true
field_itself (Int z) = ap is_eq (tied_itself int_cmp_total z)
field_itself (Text t) = ap is_eq (tied_itself nat_list_cmp_total t)

row_itself : (r : Row) → same_row r r ≡ true
row_itself [] = refl
row_itself (m ∷ ms) = and_from _ _ (and_from _ _ (ap is_eq (tied_itself nat_list_cmp_total m.0)) (field_itself m.1)) (row_itself ms)

rows_themselves : (r : Option Row) → same_option same_row r r ≡ true
rows_themselves None = refl
rows_themselves (Some r) = row_itself r

share_itself : (s : Option (Key × ℤ)) → same_share s s ≡ true
share_itself None = refl
share_itself (Some a) = and_from _ _ (ap is_eq (tied_itself nat_list_cmp_total a.0)) (ap is_eq (tied_itself int_cmp_total a.1))

no_parts : (by : List ℕ) (field : Option (List ℕ)) (row : Option Row) → table_parts by field row row ≡ []
no_parts by field row = let s = share_under by field row in ap (λ c. cond c [] (deltas_of false s ++ deltas_of true s)) (share_itself s)

numbered : {A : Type 0} (P : ℕ → A → Type 0) (values : ℕ → A) (n : ℕ) (v : A) → ((c : ℕ) → P c (values c)) → P n v → (c : ℕ) → P c (with_number values n v c)
numbered P values n v h new c = elim (nat_eq c n) as (λ b. nat_eq c n ≡ b → P c (cond b v (values c))) [
  | true ↦ λ b. subst (λ m. P m v) (sym ((Decides-eqb c n).0 b)) new
  | false ↦ λ b. h c
] refl

module _ (rules : Rules) (p : Plan) (a : Arrival) (within : IsWithin p a.topic) where
  -- ---- which nodes the arrival reaches
  -- its topic comes before those of the nodes after this one
  abbrev Reaches : ℕ → Type 0
  Reaches n = rank p a.topic < length p.counts + suc n + suc n

  reaches_later : (f n : ℕ) → f < n → Reaches f → Reaches n
  reaches_later f n lt h = omega (arith, lt, h)

  -- what comes at a topic, or doesn't
  at_topic : {A : Type 0} (t : Topic) (n : ℕ) → (IsWithin p t → rank p t < length p.counts + suc n + suc n) → (f : Option Message → A) (old : A) → f None ≡ old → (f (arrived a t) ≡ old) ⊎ Reaches n
  at_topic {A} t n low f old e = elim (same_topic a.topic t) as (λ b. same_topic a.topic t ≡ b → (f (cond b (Some a.item.message) None) ≡ old) ⊎ Reaches n) [
    | true ↦ λ b. inr (let is = topic-is a.topic t b in subst (λ u. rank p u < length p.counts + suc n + suc n) (sym is) (low (subst (IsWithin p) is within)))
    | false ↦ λ b. inl e
  ] refl

  at_input : {A : Type 0} (t n : ℕ) (f : Option Message → A) (old : A) → f None ≡ old → (f (arrived a (InputTopic t)) ≡ old) ⊎ Reaches n
  at_input t n f old e = at_topic (InputTopic t) n (λ (w : t < length p.counts). omega (arith, w)) f old e

  at_repartition : {A : Type 0} (n : ℕ) (f : Option Message → A) (old : A) → f None ≡ old → (f (arrived a (Repartition n)) ≡ old) ⊎ Reaches n
  at_repartition n f old e = at_topic (Repartition n) n (λ w. omega arith) f old e

  at_responses : {A : Type 0} (n : ℕ) (f : Option Message → A) (old : A) → f None ≡ old → (f (arrived a (Responses n)) ≡ old) ⊎ Reaches n
  at_responses n f old e = at_topic (Responses n) n (λ w. omega arith) f old e

  abbrev ItemsReached : (ℕ → Option StreamItem) → Type 0
  ItemsReached items = (c : ℕ) → (items c ≡ None) ⊎ Reaches c

  passed : (f n : ℕ) (items : ℕ → Option StreamItem) (g : StreamItem → Option StreamItem) → ItemsReached items → f < n → (option_and_then g (items f) ≡ None) ⊎ Reaches n
  passed f n items g h lt = ⊎_elim (λ (e : items f ≡ None). inl (ap (option_and_then g) e)) (λ (o : Reaches f). inr (reaches_later f n lt o)) (h f)

  item_reached : (items : ℕ → Option StreamItem) (n : ℕ) (k : Kind) → ItemsReached items → NodeFits p n k → (item_at a items k ≡ None) ⊎ Reaches n
  item_reached items n (StreamSource t) h f = at_input t n (item_given a.item.time) None refl
  item_reached items n (StreamFilter g x) h f = passed g n items (filter_item x) h f.before
  item_reached items n (StreamMap g s) h f = passed g n items (map_item s) h f.before
  item_reached items n (KeySelected g k) h f = passed g n items (rekey_item k) h f.before
  item_reached items n (TableSource t) h f = inl refl
  item_reached items n (TableFilter g x) h f = inl refl
  item_reached items n (TableMap g s) h f = inl refl
  item_reached items n (StreamAggregate g by field through) h f = inl refl
  item_reached items n (TableAggregate g by field) h f = inl refl
  item_reached items n (Windowed g by w through) h f = inl refl
  item_reached items n (KeyJoin l r kind s) h f = inl refl
  item_reached items n (ForeignKeyJoin l r fk kind s) h f = inl refl

  items_reached : (items : ℕ → Option StreamItem) (n : ℕ) (ks : List Kind) → ItemsReached items → EachFits p n ks → ItemsReached (items_from a items n ks)
  items_reached items n [] h f = h
  items_reached items n (k ∷ ks) h f =
      items_reached (with_number items n (item_at a items k)) (suc n) ks (numbered (λ c x. (x ≡ None) ⊎ Reaches c) items n (item_at a items k) h (item_reached items n k h f.0)) f.1

  module _ (items : ℕ → Option StreamItem) (reached : ItemsReached items) (olds : Values) where
    abbrev KeptOr : Values → Type 0
    KeptOr news = (c : ℕ) → (news c ≡ olds c) ⊎ Reaches c

    unchanged_row : (news : Values) (f : ℕ) → news f ≡ olds f → changed olds news f ≡ false
    unchanged_row news f e = ap (λ w. not (same_option same_row (row_in olds f) (row_in (λ m. w) f))) e ∙ ap not (rows_themselves (row_in olds f))

    -- a node acts where its input changed
    acts : (f n : ℕ) (news : Values) (new : Option Stored) → KeptOr news → f < n → (cond (changed olds news f) new (olds n) ≡ olds n) ⊎ Reaches n
    acts f n news new h lt = ⊎_elim (λ (e : news f ≡ olds f). inl (ap (λ c. cond c new (olds n)) (unchanged_row news f e))) (λ (o : Reaches f). inr (reaches_later f n lt o)) (h f)

    item_taken : (f n : ℕ) (field : Option (List ℕ)) (through : Bool) → f < n → (added field (olds n) (item_into a items n f through) ≡ olds n) ⊎ Reaches n
    item_taken f n field true lt = at_repartition n (λ m. added field (olds n) (item_keyed a.item.time m)) (olds n) refl
    item_taken f n field false lt = ⊎_elim (λ (e : items f ≡ None). inl (ap (added field (olds n)) e)) (λ (o : Reaches f). inr (reaches_later f n lt o)) (reached f)

    value_reached : (news : Values) (n : ℕ) (k : Kind) → KeptOr news → NodeFits p n k → (value_at rules a items olds news n k ≡ olds n) ⊎ Reaches n
    value_reached news n (TableSource t) h f = at_input t n (taken_row (olds n)) (olds n) refl
    value_reached news n (TableFilter g x) h f = acts g n news _ h f.before
    value_reached news n (TableMap g s) h f = acts g n news _ h f.before
    value_reached news n (StreamAggregate g by field through) h f = item_taken g n field through f.0
    value_reached news n (TableAggregate g by field) h f = at_repartition n (applied field (olds n)) (olds n) refl
    value_reached news n (KeyJoin l r kind s) h f =
        let new = of_row (joined kind s (row_in news l) (row_in news r)) in
        ⊎_elim
        (λ (e : news l ≡ olds l). ⊎_elim
        (λ (g : news r ≡ olds r). inl (ap₂ (λ b c. cond (b || c) new (olds n)) (unchanged_row news l e) (unchanged_row news r g)))
        (λ (o : Reaches r). inr (reaches_later r n f.1.before o)) (h r))
        (λ (o : Reaches l). inr (reaches_later l n f.0.before o)) (h l)
    value_reached news n (ForeignKeyJoin l r fk kind s) h f =
        ⊎_elim
        (λ (e : news l ≡ olds l). ⊎_elim
        (λ (g : responded rules kind s (row_in news l) (arrived a (Responses n)) (olds n) ≡ olds n). inl (ap (λ c. cond c (direct fk (step_key a.item.message) kind s (row_in olds l) (row_in news l) (olds n)) (responded rules kind s (row_in news l) (arrived a (Responses n)) (olds n))) (unchanged_row news l e) ∙ g))
        (λ o. inr o)
        (at_responses n (λ m. responded rules kind s (row_in news l) m (olds n)) (olds n) refl))
        (λ (o : Reaches l). inr (reaches_later l n f.0.before o)) (h l)
    value_reached news n (StreamSource t) h f = inl refl
    value_reached news n (StreamFilter g x) h f = inl refl
    value_reached news n (StreamMap g s) h f = inl refl
    value_reached news n (KeySelected g k) h f = inl refl
    value_reached news n (Windowed g by w through) h f = inl refl

    values_reached : (news : Values) (n : ℕ) (ks : List Kind) → KeptOr news → EachFits p n ks → KeptOr (values_from rules a items olds news n ks)
    values_reached news n [] h f = h
    values_reached news n (k ∷ ks) h f =
        values_reached (with_number news n (value_at rules a items olds news n k)) (suc n) ks
        (numbered (λ c x. (x ≡ olds c) ⊎ Reaches c) news n (value_at rules a items olds news n k) h (value_reached news n k h f.0)) f.1

    -- ---- what is sent
    abbrev IsLater : Sent → Type 0
    IsLater s = rank p a.topic < rank p s.topic

    later_deltas : (n : ℕ) (ds : List (Key × Delta)) → rank p a.topic < rank p (Repartition n) → Each IsLater (send_deltas n ds)
    later_deltas n [] lt = each_nothing IsLater
    later_deltas n (d ∷ ds) lt = each_first IsLater _ _ lt (later_deltas n ds lt)

    later_subscriptions : (n : ℕ) (k : Key) (ss : List (Key × Subscription)) → rank p a.topic < rank p (Subscriptions n) → Each IsLater (send_subscriptions n k ss)
    later_subscriptions n k [] lt = each_nothing IsLater
    later_subscriptions n k (s ∷ ss) lt = each_first IsLater _ _ lt (later_subscriptions n k ss lt)

    later_responses : (n : ℕ) (rs : List Sending) → rank p a.topic < rank p (Responses n) → Each IsLater (send_responses n rs)
    later_responses n [] lt = each_nothing IsLater
    later_responses n (r ∷ rs) lt = each_first IsLater _ _ lt (later_responses n rs lt)

    later_keyed : (n : ℕ) (row : Row) (g : Option Key) → rank p a.topic < rank p (Repartition n) → Each IsLater (keyed_to n row g)
    later_keyed n row None lt = each_nothing IsLater
    later_keyed n row (Some g) lt = each_first IsLater _ _ lt (each_nothing IsLater)

    later_regroup : (by : Option (List ℕ)) (n : ℕ) (x : Option StreamItem) → (x ≡ None) ⊎ (rank p a.topic < rank p (Repartition n)) → Each IsLater (regroup by n x)
    later_regroup by n None h = each_nothing IsLater
    later_regroup by n (Some x) (inl e) = absurd cc
    later_regroup by n (Some x) (inr lt) = later_keyed n x.row (group_key by x) lt

    -- an item that reached a node before this one
    item_before : (f n : ℕ) → f < n → (items f ≡ None) ⊎ (rank p a.topic < rank p (Repartition n))
    item_before f n lt = ⊎_elim (λ (e : items f ≡ None). inl e) (λ (o : Reaches f). inr (omega (arith, lt, o))) (reached f)

    later_through : (by : Option (List ℕ)) (f n : ℕ) (through : Bool) → f < n → Each IsLater (cond through (regroup by n (items f)) [])
    later_through by f n true lt = later_regroup by n (items f) (item_before f n lt)
    later_through by f n false lt = each_nothing IsLater

    module _ (news : Values) (h : KeptOr news) where
      -- what is sent where a node before this one changed
      where_changed : (f n : ℕ) (xs : List Sent) → f < n → (rank p a.topic < length p.counts + n + n → Each IsLater xs) → Each IsLater (cond (changed olds news f) xs [])
      where_changed f n xs lt each = ⊎_elim
          (λ (e : news f ≡ olds f). subst (λ c. Each IsLater (cond c xs [])) (sym (unchanged_row news f e)) (each_nothing IsLater))
          (λ (o : Reaches f). by (changed olds news f) (each (omega (arith, lt, o)))) (h f)
        where
          by : (c : Bool) → Each IsLater xs → Each IsLater (cond c xs [])
          by true g = g
          by false g = each_nothing IsLater

      later_join : (fk : Fk) (part : Option ℕ) (n l r : ℕ) (st : Store) (k : Option Key) → l < n → r < n → Each IsLater (join_sends rules fk part n l r st olds news k)
      later_join fk part n l r st None ll rl = each_nothing IsLater
      later_join fk part n l r st (Some k) ll rl = Each-append IsLater _ _
          (where_changed l n _ ll (λ lt. later_subscriptions n k (subscriptions rules.hash fk k part (row_in olds l) (row_in news l)) lt))
          (where_changed r n _ rl (λ lt. later_responses n (answer_all (row_in news r) (fin.entries (st.hashes n k))) (omega (arith, lt))))

      later_answer : (n : ℕ) (st : Store) (r : ℕ) (m : Option Message) → rank p a.topic < rank p (Responses n) → Each IsLater (answer_one n st r m)
      later_answer n st r None lt = each_nothing IsLater
      later_answer n st r (Some (Asked b k s)) lt = later_responses n _ lt
      later_answer n st r (Some _) lt = each_nothing IsLater

      later_one : (n : ℕ) (st : Store) (r : ℕ) → Each IsLater (answer_one n st r (arrived a (Subscriptions n)))
      later_one n st r = elim (same_topic a.topic (Subscriptions n)) as (λ b. same_topic a.topic (Subscriptions n) ≡ b → Each IsLater (answer_one n st r (cond b (Some a.item.message) None))) [
        | true ↦ λ b. later_answer n st r (Some a.item.message) (let is : rank p a.topic ≡ rank p (Subscriptions n) = ap (rank p) (topic-is a.topic (Subscriptions n) b) in omega (arith, is))
        | false ↦ λ b. each_nothing IsLater
      ] refl

      later_sends : (st : Store) (n : ℕ) (k : Kind) → NodeFits p n k → Each IsLater (sends_at rules a items st olds news n k)
      later_sends st n (StreamAggregate f by field through) fit = later_through by f n through fit.0
      later_sends st n (Windowed f by w through) fit = later_through by f n through fit.0
      later_sends st n (TableAggregate f by field) fit = ⊎_elim
          (λ (e : news f ≡ olds f). subst (λ (w : Option Stored). Each IsLater (send_deltas n (table_parts by field (row_in olds f) (row_in (λ m. w) f)))) (sym e)
          (subst (λ ds. Each IsLater (send_deltas n ds)) (sym (no_parts by field (row_in olds f))) (each_nothing IsLater)))
          (λ (o : Reaches f). later_deltas n (table_parts by field (row_in olds f) (row_in news f)) (omega (arith, fit, o))) (h f)
      later_sends st n (ForeignKeyJoin l r fk kind s) fit = Each-append IsLater _ _ (later_join fk (a.names n) n l r st (step_key a.item.message) fit.0.before fit.1) (later_one n st r)
      later_sends st n (StreamSource t) fit = each_nothing IsLater
      later_sends st n (TableSource t) fit = each_nothing IsLater
      later_sends st n (StreamFilter f x) fit = each_nothing IsLater
      later_sends st n (TableFilter f x) fit = each_nothing IsLater
      later_sends st n (StreamMap f s) fit = each_nothing IsLater
      later_sends st n (TableMap f s) fit = each_nothing IsLater
      later_sends st n (KeySelected f k) fit = each_nothing IsLater
      later_sends st n (KeyJoin l r kind s) fit = each_nothing IsLater

      later_nodes : (st : Store) (n : ℕ) (ks : List Kind) → EachFits p n ks → Each IsLater (over_nodes (sends_at rules a items st olds news) n ks)
      later_nodes st n [] fit = each_nothing IsLater
      later_nodes st n (k ∷ ks) fit = Each-append IsLater _ _ (later_sends st n k fit.0) (later_nodes st (suc n) ks fit.1)

  -- ---- what is written
  module _ (free : is_changelog a.topic ≡ false) where
    abbrev IsAfter : Written → Type 0
    IsAfter w = rank p a.topic < rank p w.topic

    after_all : (t : Topic) (ms : List Message) → rank p a.topic < rank p t → Each IsAfter (write_all t ms)
    after_all t [] lt = each_nothing IsAfter
    after_all t (m ∷ ms) lt = each_first IsAfter _ _ lt (after_all t ms lt)

    after_nodes : (items : ℕ → Option StreamItem) (st : Store) (olds news : Values) (n : ℕ) (ks : List Kind) → Each IsAfter (over_nodes (changes_at a items st olds news) n ks)
    after_nodes items st olds news n [] = each_nothing IsAfter
    after_nodes items st olds news n (k ∷ ks) =
        let low = before_logs p a.topic within free in
        Each-append IsAfter _ _ (Each-append IsAfter _ _ (after_all (Changelog n) _ (omega (arith, low))) (after_all (HashChangelog n) _ (omega (arith, low)))) (after_nodes items st olds news (suc n) ks)

    -- ---- one step over messages
    abbrev Follows : Place × Item → Type 0
    Follows x = rank p a.topic < rank p x.0.topic

    pub step_follows : Fits p → (t : TaskId) (st : Store) →
        Each Follows (map (sent_item rules p a.item.time) (whole_step rules p st a).sends ++ map (written_item t.part a.item.time) (whole_step rules p st a).changes)
    step_follows fits t st =
        let key = step_key a.item.message in
        let items = items_from a (λ n. None) 0 p.kinds in
        let olds = olds_at st key in
        let reached = items_reached (λ n. None) 0 p.kinds (λ c. inl refl) fits in
        Each-append Follows _ _
        (Each-map Follows (sent_item rules p a.item.time) _ (later_nodes items reached olds (news_at rules p a items olds key) (news_kept items reached olds key) st 0 p.kinds fits))
        (Each-map Follows (written_item t.part a.item.time) _ (after_nodes items st olds (news_at rules p a items olds key) 0 p.kinds))
      where
        news_kept : (items : ℕ → Option StreamItem) → ItemsReached items → (olds : Values) (key : Option Key) → (c : ℕ) → (news_at rules p a items olds key c ≡ olds c) ⊎ Reaches c
        news_kept items reached olds None = λ c. inl refl
        news_kept items reached olds (Some k) = values_reached items reached olds olds 0 p.kinds (λ c. inl refl) fits

-- ---- one step over bytes
module _ (rules : Rules) (p : Plan) where
  -- what goes to places of greater number goes to none up to this one
  none_to : (r : PartId) (i : ℕ) → r.topic ≤ i → (f : Place × Item → Bool) (xs : List (Place × Item)) → Each (λ x. i < number_of p x.0.topic) xs → sent_to (network (work_of rules p)) r (spelled p (filter f xs)) ≡ []
  none_to r i le f [] h = refl
  none_to r i le f (x ∷ xs) h =
      let parts = each_parts (λ (y : Place × Item). i < number_of p y.0.topic) x xs h in
      by (f x) (none_to r i le f xs parts.1) (apart (same_part r (part_id p x.0)) refl parts.0)
    where
      apart : (b : Bool) → same_part r (part_id p x.0) ≡ b → i < number_of p x.0.topic → same_part r (part_id p x.0) ≡ false
      apart true e lt = absurd (
          let both = and_parts (r.topic == number_of p x.0.topic) (r.part == x.0.part) e in
          let is : r.topic ≡ number_of p x.0.topic = (Decides-eqb r.topic (number_of p x.0.topic)).0 both.0 in
          omega (arith, is, lt, le))
      apart false e lt = e

      by : (b : Bool) → sent_to (network (work_of rules p)) r (spelled p (filter f xs)) ≡ [] → same_part r (part_id p x.0) ≡ false →
          sent_to (network (work_of rules p)) r (spelled p (cond b (x ∷ filter f xs) (filter f xs))) ≡ []
      by true g e = rw e g
      by false g e = g

  plain_message : (topic : Topic) (r : Rec) (m : Message) → message_in p topic r ≡ Some m → is_changelog topic ≡ false
  plain_message (InputTopic i) r m h = refl
  plain_message (Repartition i) r m h = refl
  plain_message (Subscriptions i) r m h = refl
  plain_message (Responses i) r m h = refl
  plain_message (Changelog i) r m h = absurd cc
  plain_message (HashChangelog i) r m h = absurd cc

  module _ (fits : Fits p) (t : TaskId) (stores : ByteStores) (q : PartId) (r : PartId) (le : r.topic ≤ q.topic) where
    of_read : (topic : Topic) (rec : Rec) → topic_at p q.topic ≡ Some topic → (m : Option Message) → message_in p topic rec ≡ m → sent_to (network (work_of rules p)) r (step_read rules p t stores q topic rec.ts m).made ≡ []
    of_read topic rec at None e = refl
    of_read topic rec at (Some m) e =
        let a : Arrival = arrival p (record { topic = topic; part = q.part }) (record { message = m; time = rec.ts }) in
        let follows = step_follows rules p a (at_place p 0 _ (topics_of p) q.topic topic (all_between p) at).1 (plain_message topic rec m e) fits t (store_from p t.sub stores) in
        let made = (step rules p t (store_from p t.sub stores) (record { topic = topic; part = q.part }) (record { message = m; time = rec.ts })).made in
        none_to r q.topic le (is_sent p t) made (later made follows)
      where
        later : (xs : List (Place × Item)) → Each (λ x. rank p topic < rank p x.0.topic) xs → Each (λ x. q.topic < number_of p x.0.topic) xs
        later [] h = each_nothing (λ (x : Place × Item). q.topic < number_of p x.0.topic)
        later (x ∷ xs) h =
            let parts = each_parts (λ (y : Place × Item). rank p topic < rank p y.0.topic) x xs h in
            each_first (λ (y : Place × Item). q.topic < number_of p y.0.topic) x xs (place_after p 0 _ (topics_of p) q.topic topic x.0.topic (all_between p) at parts.0) (later xs parts.1)

    of_topic : (rec : Rec) (o : Option Topic) → topic_at p q.topic ≡ o → sent_to (network (work_of rules p)) r (step_at rules p t stores q rec o).made ≡ []
    of_topic rec None at = refl
    of_topic rec (Some topic) at = elim (nat_eq (reads p topic) t.sub) as (λ b. sent_to (network (work_of rules p)) r (cond b (step_read rules p t stores q topic rec.ts (message_in p topic rec)) (nothing_made stores)).made ≡ []) [
      | true ↦ of_read topic rec at (message_in p topic rec) refl
      | false ↦ refl
    ]

pub made_in_order : IsInOrder
made_in_order rules d well t stores q rec r le = of_topic rules (plan_of d) (well_formed_fits d well) t stores q r le rec (topic_at (plan_of d) q.topic) refl
