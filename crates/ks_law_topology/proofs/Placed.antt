-- Each record stands at the partition of its key, and each stored row at the task that keeps its key.
use Rattle.std.proofs.Common.{◌≡◌, ℕ, suc, Bool, true, false, cond, not, ◌&&◌, ◌||◌, List, [], ◌∷◌, ◌++◌, map, Option, Some, None, refl, sym, ap, ap₂, subst, ◌∙◌, nat_eq, ◌⊎◌, inl, inr, ⊎_elim, T}
use Rattle.std.specs.List.{filter}
use Rattle.std.specs.Prelude.{option_and_then, option_map}
use Rattle.std.specs.Ordering.{eq_by_cmp, is_eq}
use Rattle.std.specs.Cmp.Lexicographic.{nat_list_cmp_total}
use Rattle.std.specs.FinMap.{slice_cmp-IsAntisymmetric, nat_cmp-IsAntisymmetric}
use Rattle.std.proofs.lemmas.Bool.{and_parts, and_from}
use Rattle.std.specs.Cmp.{tied_itself, int_cmp_total}
use Rattle.ks_row.specs.declared.row.Field.{Field}
use Rattle.ks_row.specs.declared.row.Field.TheVariants.{Int, Text}
use Rattle.std.proofs.lemmas.Bool.Decides.{Decides-eqb}
use Rattle.ks_record.specs.declared.record.TaskId.{TaskId}
use Rattle.ks_record.specs.Parts.{same_task}
use Rattle.ks_expr.specs.Eval.{Row, joined, same_field, same_bytes}
use Rattle.ks_wire.specs.declared.values.Delta.{Delta}
use Rattle.ks_wire.specs.declared.values.Response.{Response}
use Rattle.ks_plan.specs.declared.node.Topic.{Topic}
use Rattle.ks_plan.specs.declared.node.Topic.TheVariants.{Input as InputTopic, Repartition, Subscriptions, Responses, Changelog, HashChangelog}
use Rattle.ks_expr.specs.declared.terms.Fk.{Fk}
use Rattle.ks_plan.specs.Plan.{Plan, Kind}
use Rattle.ks_plan.specs.Plan.Kind.{StreamSource, TableSource, StreamFilter, TableFilter, StreamMap, TableMap, KeySelected, StreamAggregate, TableAggregate, Windowed, KeyJoin, ForeignKeyJoin}
use Rattle.ks_plan.specs.Layout.{same_topic, parts_of, sub_of, sub_count, is_read, source_of, spread_of, spread_of_topic, before_of}
use Rattle.ks_def_runs.specs.FinMap as fin
use Rattle.ks_def_runs.specs.Bytes.{by_bytes}
use Rattle.ks_def_runs.proofs.Tables.{equal, get-write}
use Rattle.ks_query.specs.Streams.{Key, Input, StreamItem, filter_item, map_item, rekey_item}
use Rattle.ks_wire.specs.declared.values.Subscriber.{Subscriber}
use Rattle.ks_expr.specs.Keys.{fk_of}
use Rattle.ks_def_runs.specs.Table.{write}
use Rattle.ks_plan.specs.Drafts.{Name}
use Rattle.ks_query.specs.Query.{with_number}
use Rattle.ks_query.specs.Aggregates.{table_parts}
use Rattle.ks_def_runs.specs.Run.{Machine, RunState, is_from, same_channel, sent_to, take_first, initial, run}
use Rattle.ks_def_runs.proofs.Runs.{kept_by_run}
use Rattle.ks_def_tasks.specs.Messages.{Place, same_place, Stored, Subscription, Message, Item, Store, Rules, same_row, same_option}
use Rattle.ks_def_tasks.specs.Messages.Message.{Given, Keyed, Moved, Asked, Answered, Kept, KeptCount, KeptTime, KeptHash}
use Rattle.ks_def_tasks.specs.Foreign.{subscriptions, answer_all, Sending, subscribe, key_of_row, subscribed, hash_by}
use Rattle.ks_def_tasks.specs.Step.To.{Named}
use Rattle.ks_def_tasks.specs.Step.{Arrival, Sent, Values, row_in, changed, arrived, step_key, sends_at, join_sends, regroup, keyed_to, send_deltas, send_subscriptions, send_responses, answer_one, over_nodes, whole_step, items_from, item_at, item_into, item_given, item_keyed, taken_row, added, applied, responded, direct, of_row, olds_at, news_at, value_at, values_from, tables_after, subscribe_at, answer_of}
use Rattle.ks_def_tasks.specs.Tasks.{arrival, machine, step, taker, is_changelog, stands_at, inputs_of, item_of_input, part_of_key, to_part}
use Rattle.ks_def_tasks.specs.Rest.{home, named}
use Rattle.ks_def_tasks.proofs.Names.{same_task-is, same_place-is}
use Rattle.ks_law_topology.proofs.Each.{Each, each_nothing, each_first, each_parts, Each-append, Each-cond, Each-filter, Each-map}
use Rattle.ks_law_topology.proofs.Entries.{each_entry}
use Rattle.ks_law_topology.proofs.Fits.{Fits, NodeFits, EachFits, Beside, Sourced}
use Rattle.ks_law_topology.proofs.Mixed.{messages-append, picked, made_is}
use Rattle.ks_law_topology.specs.Taken.{messages}
use Rattle.ks_query.specs.Streams.{group_key}

pub topic-is : (a b : Topic) → same_topic a b ≡ true → a ≡ b
topic-is a b e = ap (λ (q : Place). q.topic) ((same_place-is (record { topic = a; part = 0 }) (record { topic = b; part = 0 })).0 (ap (λ c. c && true) e))

-- ---- messages with the keys by which they are sent
abbrev pub HasKey : Message → Key → Type 0
HasKey (Keyed g row) k = g ≡ k
HasKey (Moved g d) k = g ≡ k
HasKey (Asked b q s) k = b ≡ k
HasKey (Answered q r) k = q ≡ k
HasKey m k = ⊥

abbrev pub IsKeyed : Sent → Type 0
IsKeyed s = HasKey s.message s.key

field_itself : (f : Field) → same_field f f ≡ true
field_itself (Int z) = ap is_eq (tied_itself int_cmp_total z)
field_itself (Text t) = ap is_eq (tied_itself nat_list_cmp_total t)

row_itself : (r : Row) → same_row r r ≡ true
row_itself [] = refl
row_itself (m ∷ ms) = and_from _ _ (and_from _ _ (ap is_eq (tied_itself nat_list_cmp_total m.0)) (field_itself m.1)) (row_itself ms)

rows_themselves : (r : Option Row) → same_option same_row r r ≡ true
rows_themselves None = refl
rows_themselves (Some r) = row_itself r

module _ (rules : Rules) (p : Plan) where
  -- a message stands at its key's partition
  abbrev pub FitsKey : Place → Key → Type 0
  FitsKey q k = q.part ≡ rules.part k (spread_of_topic p q.topic)

  abbrev pub FitsAt : Place → Message → Type 0
  FitsAt q (Given None v) = Unit {0}
  FitsAt q (Given (Some k) v) = FitsKey q k
  FitsAt q (Keyed g row) = FitsKey q g
  FitsAt q (Moved g d) = FitsKey q g
  FitsAt q (Asked b l s) = FitsKey q b
  FitsAt q (Answered l r) = FitsKey q l
  FitsAt q m = Unit {0}

  by_key_fits : (q : Place) (m : Message) (k : Key) → HasKey m k → FitsKey q k → FitsAt q m
  by_key_fits q (Keyed g row) k h f = subst (FitsKey q) (sym h) f
  by_key_fits q (Moved g d) k h f = subst (FitsKey q) (sym h) f
  by_key_fits q (Asked b l s) k h f = subst (FitsKey q) (sym h) f
  by_key_fits q (Answered l r) k h f = subst (FitsKey q) (sym h) f
  by_key_fits q (Given None v) k h f = absurd h
  by_key_fits q (Given (Some g) v) k h f = absurd h
  by_key_fits q (Kept g w) k h f = absurd h
  by_key_fits q (KeptCount g w) k h f = absurd h
  by_key_fits q (KeptTime t) k h f = absurd h
  by_key_fits q (KeptHash b l s) k h f = absurd h

  -- ---- what subscriptions name
  abbrev pub NamesHome : Topic → Message → Type 0
  NamesHome (Subscriptions n) (Asked b k s) = s.part ≡ named rules p n k
  NamesHome t m = Unit {0}

  -- a response to the partition that a subscription named goes to its left key's place
  home_named : (n : ℕ) (k : Key) (part : Option ℕ) → part ≡ named rules p n k → to_part rules p (Responses n) k (Named part) ≡ rules.part k (spread_of p n)
  home_named n k part e = by (before_of p n) refl part e
    where
      by : (b : Option Name) → before_of p n ≡ b → (part : Option ℕ) → part ≡ option_map (λ s. home rules p n k) b → to_part rules p (Responses n) k (Named part) ≡ rules.part k (spread_of p n)
      by None plain part is = ap (λ o. to_part rules p (Responses n) k (Named o)) is ∙ ap (λ b. rules.part k (record { parts = parts_of p n; before = b })) (sym plain)
      by (Some s) stated part is = ap (λ o. to_part rules p (Responses n) k (Named o)) is

  -- a record has the key by which it is sent, goes to that key's place, and names its task's partition where it is to
  pub record IsGood (s : Sent) : Type 0 where
    pub keyed : IsKeyed s
    pub place : to_part rules p s.topic s.key s.to ≡ rules.part s.key (spread_of_topic p s.topic)
    pub names : NamesHome s.topic s.message

  picked_fit : (q : Place) (xs : List Sent) → Each IsGood xs → Each (FitsAt q) (picked rules p q xs)
  picked_fit q [] e = each_nothing (FitsAt q)
  picked_fit q (s ∷ xs) e =
      let parts = each_parts IsGood s xs e in
      let at : Place = record { topic = s.topic; part = to_part rules p s.topic s.key s.to } in
      elim (same_place q at) as (λ b. same_place q at ≡ b → Each (FitsAt q) (cond b (s.message ∷ picked rules p q xs) (picked rules p q xs))) [
        | true ↦ λ b.
            let is : q ≡ at = (same_place-is q at).0 b in
            let fits : FitsKey q s.key = subst (λ v. FitsKey v s.key) (sym is) parts.0.place in
            each_first (FitsAt q) s.message (picked rules p q xs) (by_key_fits q s.message s.key parts.0.keyed fits) (picked_fit q xs parts.1)
        | false ↦ λ b. picked_fit q xs parts.1
      ] refl

  picked_named : (q : Place) (xs : List Sent) → Each IsGood xs → Each (NamesHome q.topic) (picked rules p q xs)
  picked_named q [] e = each_nothing (NamesHome q.topic)
  picked_named q (s ∷ xs) e =
      let parts = each_parts IsGood s xs e in
      let at : Place = record { topic = s.topic; part = to_part rules p s.topic s.key s.to } in
      elim (same_place q at) as (λ b. same_place q at ≡ b → Each (NamesHome q.topic) (cond b (s.message ∷ picked rules p q xs) (picked rules p q xs))) [
        | true ↦ λ b.
            let is : q.topic ≡ s.topic = ap (λ (v : Place). v.topic) ((same_place-is q at).0 b) in
            each_first (NamesHome q.topic) s.message (picked rules p q xs) (subst (λ t. NamesHome t s.message) (sym is) parts.0.names) (picked_named q xs parts.1)
        | false ↦ λ b. picked_named q xs parts.1
      ] refl

  -- ---- what a node sends is good
  good_deltas : (n : ℕ) (ds : List (Key × Delta)) → Each IsGood (send_deltas n ds)
  good_deltas n [] = each_nothing IsGood
  good_deltas n (d ∷ ds) = each_first IsGood _ _ (record { keyed = refl; place = refl; names = tt }) (good_deltas n ds)

  good_item : (n : ℕ) (row : Row) (g : Option Key) → Each IsGood (keyed_to n row g)
  good_item n row None = each_nothing IsGood
  good_item n row (Some g) = each_first IsGood _ _ (record { keyed = refl; place = refl; names = tt }) (each_nothing IsGood)

  good_regroup : (by : Option (List ℕ)) (n : ℕ) (x : Option StreamItem) → Each IsGood (regroup by n x)
  good_regroup by n None = each_nothing IsGood
  good_regroup by n (Some x) = good_item n x.row (group_key by x)

  good_asked : (n : ℕ) (k : Key) (ss : List (Key × Subscription)) → Each (λ (s : Key × Subscription). s.1.part ≡ named rules p n k) ss → Each IsGood (send_subscriptions n k ss)
  good_asked n k [] e = each_nothing IsGood
  good_asked n k (s ∷ ss) e =
      let parts = each_parts (λ (s : Key × Subscription). s.1.part ≡ named rules p n k) s ss e in
      each_first IsGood _ _ (record { keyed = refl; place = refl; names = parts.0 }) (good_asked n k ss parts.1)

  good_answers : (n : ℕ) (rs : List Sending) → Each (λ (r : Sending). r.2 ≡ named rules p n r.0) rs → Each IsGood (send_responses n rs)
  good_answers n [] e = each_nothing IsGood
  good_answers n (r ∷ rs) e =
      let parts = each_parts (λ (r : Sending). r.2 ≡ named rules p n r.0) r rs e in
      each_first IsGood _ _ (record { keyed = refl; place = home_named n r.0 r.2 parts.0; names = tt }) (good_answers n rs parts.1)

  -- each subscription of a change names what it is told to
  asks_named : (hash : Row → ℕ) (fk : Fk) (n : ℕ) (k : Key) (part : Option ℕ) (old new : Option Row) → part ≡ named rules p n k → Each (λ (s : Key × Subscription). s.1.part ≡ named rules p n k) (subscriptions hash fk k part old new)
  asks_named hash fk n k part old None e = one (key_of_row fk k old) _ e
    where
      one : (b : Option Key) (s : Subscription) → s.part ≡ named rules p n k → Each (λ (s : Key × Subscription). s.1.part ≡ named rules p n k) (subscribe b s)
      one None s e = each_nothing _
      one (Some b) s e = each_first _ (b, s) [] e (each_nothing _)
  asks_named hash fk n k part old (Some v) e = Each-append _ _ _ (Each-cond _ (same_option same_bytes (key_of_row fk k old) (fk_of fk k v)) _ _ (each_nothing _) (one (key_of_row fk k old) _ e)) (one (fk_of fk k v) _ e)
    where
      one : (b : Option Key) (s : Subscription) → s.part ≡ named rules p n k → Each (λ (s : Key × Subscription). s.1.part ≡ named rules p n k) (subscribe b s)
      one None s e = each_nothing _
      one (Some b) s e = each_first _ (b, s) [] e (each_nothing _)

  -- ---- whose values change in a step
  -- the arrival's topic is one that the node's tasks take, with the node's partitions
  pub record Owned (t : Topic) (n : ℕ) : Type 0 where
    pub list : is_changelog t ≡ false
    pub sub : taker p t ≡ sub_of p n
    pub spread : spread_of_topic p t ≡ spread_of p n

  owned_beside : (t : Topic) (f n : ℕ) → Beside p f n → Owned t f → Owned t n
  owned_beside t f n b o = record { list = o.list; sub = o.sub ∙ b.sub; spread = o.spread ∙ b.spread }

  owned_input : (t n : ℕ) → Sourced p t n → Owned (InputTopic t) n
  owned_input t n s = record { list = refl; sub = ap (λ b. cond b (sub_of p (source_of p t)) (sub_count p)) s.read ∙ s.sub; spread = s.spread }

  owned_repartition : (n : ℕ) → Owned (Repartition n) n
  owned_repartition n = record { list = refl; sub = refl; spread = refl }

  owned_responses : (n : ℕ) → Owned (Responses n) n
  owned_responses n = record { list = refl; sub = refl; spread = refl }

  module _ (a : Arrival) where
    -- what comes at a topic of the node, or doesn't
    at_topic : {A : Type 0} (t : Topic) (n : ℕ) → Owned t n → (f : Option Message → A) (old : A) → f None ≡ old → (f (arrived a t) ≡ old) ⊎ Owned a.topic n
    at_topic {A} t n o f old e = elim (same_topic a.topic t) as (λ b. same_topic a.topic t ≡ b → (f (cond b (Some a.item.message) None) ≡ old) ⊎ Owned a.topic n) [
      | true ↦ λ b. inr (subst (λ u. Owned u n) (sym (topic-is a.topic t b)) o)
      | false ↦ λ b. inl e
    ] refl

    abbrev pub ItemsOwned : (ℕ → Option StreamItem) → Type 0
    ItemsOwned items = (c : ℕ) → (items c ≡ None) ⊎ Owned a.topic c

    passed : (f n : ℕ) (items : ℕ → Option StreamItem) (g : StreamItem → Option StreamItem) → ItemsOwned items → Beside p f n → (option_and_then g (items f) ≡ None) ⊎ Owned a.topic n
    passed f n items g h b = ⊎_elim (λ (e : items f ≡ None). inl (ap (option_and_then g) e)) (λ o. inr (owned_beside a.topic f n b o)) (h f)

    item_owned : (items : ℕ → Option StreamItem) (n : ℕ) (k : Kind) → ItemsOwned items → NodeFits p n k → (item_at a items k ≡ None) ⊎ Owned a.topic n
    item_owned items n (StreamSource t) h f = at_topic (InputTopic t) n (owned_input t n f) (item_given a.item.time) None refl
    item_owned items n (StreamFilter g x) h f = passed g n items (filter_item x) h f
    item_owned items n (StreamMap g s) h f = passed g n items (map_item s) h f
    item_owned items n (KeySelected g k) h f = passed g n items (rekey_item k) h f
    item_owned items n (TableSource t) h f = inl refl
    item_owned items n (TableFilter g x) h f = inl refl
    item_owned items n (TableMap g s) h f = inl refl
    item_owned items n (StreamAggregate g by field through) h f = inl refl
    item_owned items n (TableAggregate g by field) h f = inl refl
    item_owned items n (Windowed g by w through) h f = inl refl
    item_owned items n (KeyJoin l r kind s) h f = inl refl
    item_owned items n (ForeignKeyJoin l r fk kind s) h f = inl refl

    numbered : {A : Type 0} (P : ℕ → A → Type 0) (values : ℕ → A) (n : ℕ) (v : A) → ((c : ℕ) → P c (values c)) → P n v → (c : ℕ) → P c (with_number values n v c)
    numbered P values n v h new c = elim (nat_eq c n) as (λ b. nat_eq c n ≡ b → P c (cond b v (values c))) [
      | true ↦ λ b. subst (λ m. P m v) (sym ((Decides-eqb c n).0 b)) new
      | false ↦ λ b. h c
    ] refl

    pub items_owned : (items : ℕ → Option StreamItem) (n : ℕ) (ks : List Kind) → ItemsOwned items → EachFits p n ks → ItemsOwned (items_from a items n ks)
    items_owned items n [] h f = h
    items_owned items n (k ∷ ks) h f =
        items_owned (with_number items n (item_at a items k)) (suc n) ks (numbered (λ c x. (x ≡ None) ⊎ Owned a.topic c) items n (item_at a items k) h (item_owned items n k h f.0)) f.1

    module _ (items : ℕ → Option StreamItem) (owned : ItemsOwned items) (olds : Values) where
      abbrev pub KeptOr : Values → Type 0
      KeptOr news = (c : ℕ) → (news c ≡ olds c) ⊎ Owned a.topic c

      pub unchanged_row : (news : Values) (f : ℕ) → news f ≡ olds f → changed olds news f ≡ false
      unchanged_row news f e = ap (λ w. not (same_option same_row (row_in olds f) (row_in (λ m. w) f))) e ∙ ap not (rows_themselves (row_in olds f))

      -- a node acts where its input changed
      acts : (f n : ℕ) (news : Values) (new : Option Stored) → KeptOr news → Beside p f n → (cond (changed olds news f) new (olds n) ≡ olds n) ⊎ Owned a.topic n
      acts f n news new h b = ⊎_elim (λ (e : news f ≡ olds f). inl (ap (λ c. cond c new (olds n)) (unchanged_row news f e))) (λ o. inr (owned_beside a.topic f n b o)) (h f)

      item_taken : (f n : ℕ) (by : Option (List ℕ)) (field : Option (List ℕ)) (through : Bool) → (through ≡ false → Beside p f n) →
          (added field (olds n) (item_into a items n f through) ≡ olds n) ⊎ Owned a.topic n
      item_taken f n by field true b = at_topic (Repartition n) n (owned_repartition n) (λ m. added field (olds n) (item_keyed a.item.time m)) (olds n) refl
      item_taken f n by field false b = ⊎_elim (λ (e : items f ≡ None). inl (ap (added field (olds n)) e)) (λ o. inr (owned_beside a.topic f n (b refl) o)) (owned f)

      value_owned : (news : Values) (n : ℕ) (k : Kind) → KeptOr news → NodeFits p n k → (value_at rules a items olds news n k ≡ olds n) ⊎ Owned a.topic n
      value_owned news n (TableSource t) h f = at_topic (InputTopic t) n (owned_input t n f) (taken_row (olds n)) (olds n) refl
      value_owned news n (TableFilter g x) h f = acts g n news _ h f
      value_owned news n (TableMap g s) h f = acts g n news _ h f
      value_owned news n (StreamAggregate g by field through) h f = item_taken g n by field through f.1
      value_owned news n (TableAggregate g by field) h f = at_topic (Repartition n) n (owned_repartition n) (applied field (olds n)) (olds n) refl
      value_owned news n (KeyJoin l r kind s) h f =
          let new = of_row (joined kind s (row_in news l) (row_in news r)) in
          ⊎_elim
          (λ (e : news l ≡ olds l). ⊎_elim
          (λ (g : news r ≡ olds r). inl (ap₂ (λ b c. cond (b || c) new (olds n)) (unchanged_row news l e) (unchanged_row news r g)))
          (λ o. inr (owned_beside a.topic r n f.1 o)) (h r))
          (λ o. inr (owned_beside a.topic l n f.0 o)) (h l)
      value_owned news n (ForeignKeyJoin l r fk kind s) h f =
          ⊎_elim
          (λ (e : news l ≡ olds l). ⊎_elim
          (λ (g : responded rules kind s (row_in news l) (arrived a (Responses n)) (olds n) ≡ olds n). inl (ap (λ c. cond c (direct fk (step_key a.item.message) kind s (row_in olds l) (row_in news l) (olds n)) (responded rules kind s (row_in news l) (arrived a (Responses n)) (olds n))) (unchanged_row news l e) ∙ g))
          (λ o. inr o)
          (at_topic (Responses n) n (owned_responses n) (λ m. responded rules kind s (row_in news l) m (olds n)) (olds n) refl))
          (λ o. inr (owned_beside a.topic l n f.0 o)) (h l)
      value_owned news n (StreamSource t) h f = inl refl
      value_owned news n (StreamFilter g x) h f = inl refl
      value_owned news n (StreamMap g s) h f = inl refl
      value_owned news n (KeySelected g k) h f = inl refl
      value_owned news n (Windowed g by w through) h f = inl refl

      pub values_owned : (news : Values) (n : ℕ) (ks : List Kind) → KeptOr news → EachFits p n ks → KeptOr (values_from rules a items olds news n ks)
      values_owned news n [] h f = h
      values_owned news n (k ∷ ks) h f =
          values_owned (with_number news n (value_at rules a items olds news n k)) (suc n) ks
          (numbered (λ c x. (x ≡ olds c) ⊎ Owned a.topic c) news n (value_at rules a items olds news n k) h (value_owned news n k h f.0)) f.1

  pub fits_key : (q : Place) (m : Message) (c : Key) → step_key m ≡ Some c → FitsAt q m → FitsKey q c
  fits_key q (Given None v) c e f = cc
  fits_key q (Given (Some k) v) c e f = let is : k ≡ c = cc in subst (FitsKey q) is f
  fits_key q (Keyed g row) c e f = let is : g ≡ c = cc in subst (FitsKey q) is f
  fits_key q (Moved g d) c e f = let is : g ≡ c = cc in subst (FitsKey q) is f
  fits_key q (Answered l r) c e f = let is : l ≡ c = cc in subst (FitsKey q) is f
  fits_key q (Asked b l s) c e f = cc
  fits_key q (Kept g w) c e f = cc
  fits_key q (KeptCount g w) c e f = cc
  fits_key q (KeptTime t) c e f = cc
  fits_key q (KeptHash b l s) c e f = cc

  -- ---- in each state
  abbrev pub home_task : ℕ → Key → TaskId
  home_task n k = record { sub = sub_of p n; part = home rules p n k }

  pub record Placed (st : RunState TaskId Place Store Item) : Type 0 where
    pub waiting : (s : Option TaskId) (q : Place) → is_changelog q.topic ≡ false → Each (FitsAt q) (messages (st.waiting s q))
    pub tables : (u : TaskId) (n : ℕ) (k : Key) (x : Stored) → fin.get ((st.stores u).tables n) k ≡ Some x → u ≡ home_task n k
    -- each waiting subscription names its left key's partition, and so does what is stored of one
    pub names : (s : Option TaskId) (q : Place) → is_changelog q.topic ≡ false → Each (NamesHome q.topic) (messages (st.waiting s q))
    pub stored : (u : TaskId) (n : ℕ) (b k : Key) (x : Subscriber) → fin.get ((st.stores u).hashes n b) k ≡ Some x → x.part ≡ named rules p n k

  module _ (fits : Fits p) where
    -- one step's tables
    step_tables : (st : Store) (q : Place) (x : Item) → (is_changelog q.topic ≡ false → FitsAt q x.message) → ((n : ℕ) (k : Key) (y : Stored) → fin.get (st.tables n) k ≡ Some y → (machine rules p).reader q ≡ home_task n k) →
        (n : ℕ) (k : Key) (y : Stored) → fin.get ((whole_step rules p st (arrival p q x)).store.tables n) k ≡ Some y → (machine rules p).reader q ≡ home_task n k
    step_tables st q x at_key before n k y = by_key (step_key x.message) refl
      where
        a : Arrival
        a = arrival p q x

        items : ℕ → Option StreamItem
        items = items_from a (λ n. None) 0 p.kinds

        by_key : (key : Option Key) → step_key x.message ≡ key → fin.get (tables_after st (news_at rules p a items (olds_at st key) key) key n) k ≡ Some y → (machine rules p).reader q ≡ home_task n k
        by_key None is e = before n k y e
        by_key (Some c) is e =
            let olds = olds_at st (Some c) in
            let news = values_from rules a items olds olds 0 p.kinds in
            let own = values_owned a items (items_owned a (λ n. None) 0 p.kinds (λ c. inl refl) fits) olds olds 0 p.kinds (λ c. inl refl) fits in
            elim (eq_by_cmp by_bytes k c) as (λ b. eq_by_cmp by_bytes k c ≡ b → cond b (news n) (fin.get (st.tables n) k) ≡ Some y → (machine rules p).reader q ≡ home_task n k) [
              | true ↦ λ b g.
                  let same : k ≡ c = slice_cmp-IsAntisymmetric nat_cmp-IsAntisymmetric k c (equal _ b) in
                  ⊎_elim
                  (λ (kept : news n ≡ fin.get (st.tables n) c). before n k y (ap (fin.get (st.tables n)) same ∙ sym kept ∙ g))
                  (λ (o : Owned q.topic n).
                  let at : FitsKey q c = fits_key q x.message c is (at_key o.list) in
                  ap₂ (λ (i j : ℕ). record { sub = i; part = j }) o.sub (at ∙ ap₂ rules.part (sym same) o.spread))
                  (own n)
              | false ↦ λ b g. before n k y g
            ] refl (sym (get-write nat_list_cmp_total (st.tables n) c (news n) k) ∙ e)

    -- ---- what a step sends
    module _ (st : Store) (q : Place) (x : Item) (at_key : is_changelog q.topic ≡ false → FitsAt q x.message) (asked : is_changelog q.topic ≡ false → NamesHome q.topic x.message)
        (kept : (n : ℕ) (b k : Key) (y : Subscriber) → fin.get (st.hashes n b) k ≡ Some y → y.part ≡ named rules p n k) where
      abbrev a : Arrival
      a = arrival p q x

      abbrev items : ℕ → Option StreamItem
      items = items_from a (λ n. None) 0 p.kinds

      abbrev olds : Option Key → Values
      olds key = olds_at st key

      abbrev news : Option Key → Values
      news key = news_at rules p a items (olds key) key

      -- where the left row of a join changes, the task is that of its key
      names_here : (n l : ℕ) → Beside p l n → (c : Key) → step_key x.message ≡ Some c → changed (olds (Some c)) (news (Some c)) l ≡ true → a.names n ≡ named rules p n c
      names_here n l beside c is change = ⊎_elim
          (λ (e : news (Some c) l ≡ olds (Some c) l). let no : true ≡ false = sym change ∙ unchanged_row a items own (olds (Some c)) (news (Some c)) l e in cc)
          (λ (o : Owned q.topic l).
          let at : FitsKey q c = fits_key q x.message c is (at_key o.list) in
          let part : q.part ≡ home rules p n c = at ∙ ap (rules.part c) (o.spread ∙ beside.spread) in
          ap (λ i. option_map (λ s. i) (before_of p n)) part)
          (values_owned a items own (olds (Some c)) (olds (Some c)) 0 p.kinds (λ m. inl refl) fits l)
        where
          own : ItemsOwned a items
          own = items_owned a (λ m. None) 0 p.kinds (λ m. inl refl) fits

      -- what answers a changed right row
      answers_named : (n : ℕ) (c : Key) (row : Option Row) → Each (λ (r : Sending). r.2 ≡ named rules p n r.0) (answer_all row (fin.entries (st.hashes n c)))
      answers_named n c row = Each-map (λ (r : Sending). r.2 ≡ named rules p n r.0) (λ (e : Key × Subscriber). (e.0, record { hash = Some e.1.hash; right = row }, e.1.part)) (fin.entries (st.hashes n c))
          (each_entry (λ (e : Key × Subscriber). e.1.part ≡ named rules p n e.0) (fin.entries (st.hashes n c)) (fin.entries_sorted (st.hashes n c))
          (λ k y f. kept n c k y (fin.get-entries (st.hashes n c) k ∙ f)))

      good_join : (n l r : ℕ) (fk : Fk) → Beside p l n → (key : Option Key) → step_key x.message ≡ key → Each IsGood (join_sends rules fk (a.names n) n l r st (olds key) (news key) key)
      good_join n l r fk beside None is = each_nothing IsGood
      good_join n l r fk beside (Some c) is =
          let left = changed (olds (Some c)) (news (Some c)) l in
          let asks = send_subscriptions n c (subscriptions rules.hash fk c (a.names n) (row_in (olds (Some c)) l) (row_in (news (Some c)) l)) in
          Each-append IsGood _ _
          (elim left as (λ b. left ≡ b → Each IsGood (cond b asks [])) [
            | true ↦ λ e. good_asked n c _ (asks_named rules.hash fk n c (a.names n) (row_in (olds (Some c)) l) (row_in (news (Some c)) l) (names_here n l beside c is e))
            | false ↦ λ e. each_nothing IsGood
          ] refl)
          (Each-cond IsGood (changed (olds (Some c)) (news (Some c)) r) _ _ (good_answers n _ (answers_named n c (row_in (news (Some c)) r))) (each_nothing IsGood))

      -- what answers a subscription
      good_one : (n r : ℕ) → Each IsGood (answer_one n st r (arrived a (Subscriptions n)))
      good_one n r = elim (same_topic q.topic (Subscriptions n)) as (λ b. same_topic q.topic (Subscriptions n) ≡ b → Each IsGood (answer_one n st r (cond b (Some x.message) None))) [
        | true ↦ λ b.
            let at : q.topic ≡ Subscriptions n = topic-is q.topic (Subscriptions n) b in
            by_message x.message (subst (λ t. NamesHome t x.message) at (asked (ap is_changelog at)))
        | false ↦ λ b. each_nothing IsGood
      ] refl
        where
          one : (k : Key) (part : Option ℕ) → part ≡ named rules p n k → (y : Option Response) → Each (λ (r : Sending). r.2 ≡ named rules p n r.0) (answer_of k part y)
          one k part e None = each_nothing _
          one k part e (Some y) = each_first _ (k, y, part) [] e (each_nothing _)

          by_message : (m : Message) → NamesHome (Subscriptions n) m → Each IsGood (answer_one n st r (Some m))
          by_message (Asked b k s) e = good_answers n _ (one k s.part e _)
          by_message (Given g v) e = each_nothing IsGood
          by_message (Keyed g v) e = each_nothing IsGood
          by_message (Moved g v) e = each_nothing IsGood
          by_message (Answered g v) e = each_nothing IsGood
          by_message (Kept g v) e = each_nothing IsGood
          by_message (KeptCount g v) e = each_nothing IsGood
          by_message (KeptTime v) e = each_nothing IsGood
          by_message (KeptHash g m v) e = each_nothing IsGood

      abbrev key : Option Key
      key = step_key x.message

      good_sends : (n : ℕ) (k : Kind) → NodeFits p n k → Each IsGood (sends_at rules a items st (olds key) (news key) n k)
      good_sends n (StreamAggregate f by field through) h = Each-cond IsGood through _ _ (good_regroup by n (items f)) (each_nothing IsGood)
      good_sends n (Windowed f by w through) h = Each-cond IsGood through _ _ (good_regroup by n (items f)) (each_nothing IsGood)
      good_sends n (TableAggregate f by field) h = good_deltas n (table_parts by field (row_in (olds key) f) (row_in (news key) f))
      good_sends n (ForeignKeyJoin l r fk kind s) h = Each-append IsGood _ _ (good_join n l r fk h.0 key refl) (good_one n r)
      good_sends n (StreamSource t) h = each_nothing IsGood
      good_sends n (TableSource t) h = each_nothing IsGood
      good_sends n (StreamFilter f y) h = each_nothing IsGood
      good_sends n (TableFilter f y) h = each_nothing IsGood
      good_sends n (StreamMap f y) h = each_nothing IsGood
      good_sends n (TableMap f y) h = each_nothing IsGood
      good_sends n (KeySelected f y) h = each_nothing IsGood
      good_sends n (KeyJoin l r kind s) h = each_nothing IsGood

      good_from : (n : ℕ) (ks : List Kind) → EachFits p n ks → Each IsGood (over_nodes (sends_at rules a items st (olds key) (news key)) n ks)
      good_from n [] h = each_nothing IsGood
      good_from n (k ∷ ks) h = Each-append IsGood _ _ (good_sends n k h.0) (good_from (suc n) ks h.1)

      pub good_step : Each IsGood (whole_step rules p st a).sends
      good_step = good_from 0 p.kinds fits

      -- what is stored afterwards
      pub kept_step : (n : ℕ) (b k : Key) (y : Subscriber) → fin.get ((whole_step rules p st a).store.hashes n b) k ≡ Some y → y.part ≡ named rules p n k
      kept_step n b k y = elim (same_topic q.topic (Subscriptions n)) as (λ t. same_topic q.topic (Subscriptions n) ≡ t → fin.get (subscribe_at (cond t (Some x.message) None) (st.hashes n) b) k ≡ Some y → y.part ≡ named rules p n k) [
        | true ↦ λ t.
            let at : q.topic ≡ Subscriptions n = topic-is q.topic (Subscriptions n) t in
            by_message x.message (subst (λ v. NamesHome v x.message) at (asked (ap is_changelog at)))
        | false ↦ λ t e. kept n b k y e
      ] refl
        where
          of_hash : (m : Key) (s : Subscription) → s.part ≡ named rules p n m → (h : Option ℕ) → option_map (λ h. record { hash = h; part = s.part }) h ≡ Some y → y.part ≡ named rules p n m
          of_hash m s e None f = cc
          of_hash m s e (Some h) f = let is : record { hash = h; part = s.part } ≡ y = cc in sym (ap (λ (w : Subscriber). w.part) is) ∙ e

          by_message : (m : Message) → NamesHome (Subscriptions n) m → fin.get (subscribe_at (Some m) (st.hashes n) b) k ≡ Some y → y.part ≡ named rules p n k
          by_message (Asked c m s) e = elim (same_bytes b c) as (λ t. fin.get (cond t (write by_bytes (st.hashes n b) m (subscribed s)) (st.hashes n b)) k ≡ Some y → y.part ≡ named rules p n k) [
            | true ↦ λ f. (elim (eq_by_cmp by_bytes k m) as (λ t. eq_by_cmp by_bytes k m ≡ t → cond t (subscribed s) (fin.get (st.hashes n b) k) ≡ Some y → y.part ≡ named rules p n k) [
              | true ↦ λ t g. let is : k ≡ m = slice_cmp-IsAntisymmetric nat_cmp-IsAntisymmetric k m (equal _ t) in of_hash m s e (hash_by s.instruction s.hash) g ∙ ap (named rules p n) (sym is)
              | false ↦ λ t g. kept n b k y g
            ]) refl (sym (get-write nat_list_cmp_total (st.hashes n b) m (subscribed s) k) ∙ f)
            | false ↦ λ f. kept n b k y f
          ]
          by_message (Given g v) e = kept n b k y
          by_message (Keyed g v) e = kept n b k y
          by_message (Moved g v) e = kept n b k y
          by_message (Answered g v) e = kept n b k y
          by_message (Kept g v) e = kept n b k y
          by_message (KeptCount g v) e = kept n b k y
          by_message (KeptTime v) e = kept n b k y
          by_message (KeptHash g m v) e = kept n b k y

    pub placed_step : (st : RunState TaskId Place Store Item) (s : Option TaskId) (q : Place) (xs : List Item) → st.waiting s q ≡ xs → Placed st → Placed (take_first (machine rules p) st s q xs)
    placed_step st s q [] e h = h
    placed_step st s q (x ∷ rest) e h = record { waiting = waiting; tables = tables; names = names; stored = stored }
      where
        m : Machine TaskId Place Store Item
        m = machine rules p

        t : TaskId
        t = m.reader q

        a : Arrival
        a = arrival p q x

        head : is_changelog q.topic ≡ false → FitsAt q x.message × Each (FitsAt q) (messages rest)
        head list = each_parts (FitsAt q) x.message (messages rest) (subst (λ l. Each (FitsAt q) (messages l)) e (h.waiting s q list))

        head_names : is_changelog q.topic ≡ false → NamesHome q.topic x.message × Each (NamesHome q.topic) (messages rest)
        head_names list = each_parts (NamesHome q.topic) x.message (messages rest) (subst (λ l. Each (NamesHome q.topic) (messages l)) e (h.names s q list))

        good : Each IsGood (whole_step rules p (st.stores t) a).sends
        good = good_step (st.stores t) q x (λ list. (head list).0) (λ list. (head_names list).0) (λ n b k y g. h.stored t n b k y g)

        sent_fit : (at : Place) → is_changelog at.topic ≡ false → Each (FitsAt at) (messages (sent_to m at (step rules p t (st.stores t) q x).made))
        sent_fit at list = subst (Each (FitsAt at)) (sym (made_is rules p t (st.stores t) q at x list)) (picked_fit at (whole_step rules p (st.stores t) a).sends good)

        sent_named : (at : Place) → is_changelog at.topic ≡ false → Each (NamesHome at.topic) (messages (sent_to m at (step rules p t (st.stores t) q x).made))
        sent_named at list = subst (Each (NamesHome at.topic)) (sym (made_is rules p t (st.stores t) q at x list)) (picked_named at (whole_step rules p (st.stores t) a).sends good)

        -- what waits then: what waited, without the record that was taken, and what was sent
        then : (P : Place → Message → Type 0) → ((r : Option TaskId) (at : Place) → is_changelog at.topic ≡ false → Each (P at) (messages (st.waiting r at))) →
            (is_changelog q.topic ≡ false → Each (P q) (messages rest)) → ((at : Place) → is_changelog at.topic ≡ false → Each (P at) (messages (sent_to m at (step rules p t (st.stores t) q x).made))) →
            (r : Option TaskId) (at : Place) → is_changelog at.topic ≡ false →
            Each (P at) (messages (cond (same_channel m r at s q) rest (st.waiting r at) ++ cond (is_from same_task r t) (sent_to m at (step rules p t (st.stores t) q x).made) []))
        then P before left sent r at list = subst (Each (P at)) (sym (messages-append (cond (same_channel m r at s q) rest (st.waiting r at)) _)) (Each-append (P at) _ _
            (elim (same_channel m r at s q) as (λ b. same_channel m r at s q ≡ b → Each (P at) (messages (cond b rest (st.waiting r at)))) [
              | true ↦ λ b.
                  let is : at ≡ q = (same_place-is at q).0 (and_parts _ _ b).1 in
                  subst (λ v. Each (P v) (messages rest)) (sym is) (left (ap (λ (v : Place). is_changelog v.topic) (sym is) ∙ list))
              | false ↦ λ b. before r at list
            ] refl)
            (elim (is_from same_task r t) as (λ b. Each (P at) (messages (cond b (sent_to m at (step rules p t (st.stores t) q x).made) []))) [ true ↦ sent at list | false ↦ each_nothing (P at) ]))

        waiting : (r : Option TaskId) (at : Place) → is_changelog at.topic ≡ false →
            Each (FitsAt at) (messages (cond (same_channel m r at s q) rest (st.waiting r at) ++ cond (is_from same_task r t) (sent_to m at (step rules p t (st.stores t) q x).made) []))
        waiting = then FitsAt h.waiting (λ list. (head list).1) sent_fit

        names : (r : Option TaskId) (at : Place) → is_changelog at.topic ≡ false →
            Each (NamesHome at.topic) (messages (cond (same_channel m r at s q) rest (st.waiting r at) ++ cond (is_from same_task r t) (sent_to m at (step rules p t (st.stores t) q x).made) []))
        names = then (λ v. NamesHome v.topic) h.names (λ list. (head_names list).1) sent_named

        stored : (u : TaskId) (n : ℕ) (b k : Key) (y : Subscriber) → fin.get ((cond (same_task u t) (step rules p t (st.stores t) q x).store (st.stores u)).hashes n b) k ≡ Some y → y.part ≡ named rules p n k
        stored u n b k y = elim (same_task u t) as (λ c. fin.get ((cond c (step rules p t (st.stores t) q x).store (st.stores u)).hashes n b) k ≡ Some y → y.part ≡ named rules p n k) [
          | true ↦ kept_step (st.stores t) q x (λ list. (head list).0) (λ list. (head_names list).0) (λ n b k y g. h.stored t n b k y g) n b k y
          | false ↦ λ g. h.stored u n b k y g
        ]

        tables : (u : TaskId) (n : ℕ) (k : Key) (y : Stored) → fin.get ((cond (same_task u t) (step rules p t (st.stores t) q x).store (st.stores u)).tables n) k ≡ Some y → u ≡ home_task n k
        tables u n k y = elim (same_task u t) as (λ b. same_task u t ≡ b → fin.get ((cond b (step rules p t (st.stores t) q x).store (st.stores u)).tables n) k ≡ Some y → u ≡ home_task n k) [
          | true ↦ λ b g. (same_task-is u t).0 b ∙ step_tables (st.stores t) q x (λ list. (head list).0) (λ n k y g. h.tables t n k y g) n k y g
          | false ↦ λ b g. h.tables u n k y g
        ] refl

    input_fits : (records : List Input) (q : Place) → Each (FitsAt q) (messages (inputs_of rules p records q))
    input_fits records q = subst (Each (FitsAt q)) (sym (map_map (λ x. x.message) item_of_input (filter (stands_at rules p q) records)))
        (Each-map (FitsAt q) (λ r. (item_of_input r).message) (filter (stands_at rules p q) records) (Each-filter (λ r. FitsAt q (Given r.key r.value)) (stands_at rules p q) one records))
      where
        keyed : (t : ℕ) (k : Option Key) (v : Option Row) → InputTopic t ≡ q.topic → part_of_key rules p (InputTopic t) k ≡ q.part → FitsAt q (Given k v)
        keyed t None v e f = tt
        keyed t (Some k) v e f = sym f ∙ ap (λ u. rules.part k (spread_of_topic p u)) e

        one : (r : Input) → stands_at rules p q r ≡ true → FitsAt q (Given r.key r.value)
        one r e =
            let both = and_parts (same_topic (InputTopic r.topic) q.topic && is_read p r.topic) (nat_eq (part_of_key rules p (InputTopic r.topic) r.key) q.part) e in
            keyed r.topic r.key r.value (topic-is (InputTopic r.topic) q.topic (and_parts (same_topic (InputTopic r.topic) q.topic) (is_read p r.topic) both.0).0) ((Decides-eqb _ _).0 both.1)

        map_map : {A B C : Type 0} (f : B → C) (g : A → B) (xs : List A) → map f (map g xs) ≡ map (λ x. f (g x)) xs
        map_map f g [] = refl
        map_map f g (y ∷ ys) = ap (λ l. f (g y) ∷ l) (map_map f g ys)

    pub placed_run : (records : List Input) (schedule : List (Option TaskId × Place)) → Placed (run (machine rules p) (inputs_of rules p records) schedule)
    placed_run records schedule = kept_by_run (machine rules p) Placed (λ st c h. placed_step st c.0 c.1 (st.waiting c.0 c.1) refl h) (initial (machine rules p) (inputs_of rules p records))
        (record {
          waiting = waiting;
          tables = λ u n k x e. absurd_none (sym (fin.get-empty by_bytes k) ∙ e);
          names = names;
          stored = λ u n b k x e. absurd_stored (sym (fin.get-empty by_bytes k) ∙ e);
        }) schedule
      where
        waiting : (s : Option TaskId) (q : Place) → is_changelog q.topic ≡ false → Each (FitsAt q) (messages ((initial (machine rules p) (inputs_of rules p records)).waiting s q))
        waiting None q list = input_fits records q
        waiting (Some u) q list = each_nothing (FitsAt q)

        given_names : (q : Place) (rs : List Input) → Each (NamesHome q.topic) (messages (map item_of_input rs))
        given_names q [] = each_nothing (NamesHome q.topic)
        given_names q (r ∷ rs) = each_first (NamesHome q.topic) _ _ (of_given q.topic r.key r.value) (given_names q rs)
          where
            of_given : (t : Topic) (k : Option Key) (v : Option Row) → NamesHome t (Given k v)
            of_given (InputTopic n) k v = tt
            of_given (Repartition n) k v = tt
            of_given (Subscriptions n) k v = tt
            of_given (Responses n) k v = tt
            of_given (Changelog n) k v = tt
            of_given (HashChangelog n) k v = tt

        names : (s : Option TaskId) (q : Place) → is_changelog q.topic ≡ false → Each (NamesHome q.topic) (messages ((initial (machine rules p) (inputs_of rules p records)).waiting s q))
        names None q list = given_names q (filter (stands_at rules p q) records)
        names (Some u) q list = each_nothing (NamesHome q.topic)

        absurd_none : {A : Type 0} {x : Stored} → None ≡ Some x → A
        absurd_none e = cc

        absurd_stored : {A : Type 0} {x : Subscriber} → None ≡ Some x → A
        absurd_stored e = cc
