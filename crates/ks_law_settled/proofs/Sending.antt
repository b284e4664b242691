-- What a step sends goes to topics of the plan; what it writes, to changelogs of it.
use Rattle.std.proofs.Common.{◌≡◌, ℕ, suc, ◌≤◌, Bool, true, false, cond, ◌⊎◌, inl, inr, List, [], ◌∷◌, ◌++◌, Option, Some, None, slice_get, refl, sym, ap, ap₂, subst, ◌∙◌, arith, nat_eq, ⊎_elim}
use Rattle.std.proofs.lemmas.Bool.{true≢false}
use Rattle.std.proofs.lemmas.Bool.Decides.{Decides-eqb}
use Rattle.ks_wire.specs.declared.values.Delta.{Delta}
use Rattle.ks_expr.specs.Eval.{Row}
use Rattle.ks_expr.specs.declared.terms.Fk.{Fk}
use Rattle.ks_plan.specs.declared.node.Topic.{Topic}
use Rattle.ks_plan.specs.declared.node.Topic.TheVariants.{Repartition, Subscriptions, Responses, Changelog, HashChangelog}
use Rattle.ks_plan.specs.Plan.{Plan, Kind, is_stream}
use Rattle.ks_plan.specs.Plan.Kind.{StreamSource, TableSource, StreamFilter, TableFilter, StreamMap, TableMap, KeySelected, StreamAggregate, TableAggregate, Windowed, KeyJoin, ForeignKeyJoin}
use Rattle.ks_plan.specs.Layout.{same_topic, through_topics, changelogs_of, by_node, input_topics, topics_of}
use Rattle.ks_def_runs.specs.FinMap as fin
use Rattle.ks_query.specs.Streams.{Key, StreamItem, group_key}
use Rattle.ks_query.specs.Query.{with_number}
use Rattle.ks_query.specs.Aggregates.{table_parts}
use Rattle.ks_def_tasks.specs.Messages.{Stored, Subscription, Message, Store, Rules}
use Rattle.ks_def_tasks.specs.Messages.Message.{Asked}
use Rattle.ks_def_tasks.specs.Foreign.{Sending, subscriptions, answer_all}
use Rattle.ks_def_tasks.specs.Step.{Arrival, Sent, Written, Values, row_in, changed, arrived, step_key, sends_at, join_sends, regroup, keyed_to, send_deltas, send_subscriptions, send_responses, answer_one, write_all, value_changes, counted_at, hash_changes, changes_at, over_nodes, items_from, olds_at, news_at, value_at, values_from}
use Rattle.ks_def_tasks.specs.Tasks.{is_changelog}
use Rattle.ks_def_tasks.proofs.Names.{topic-is}
use Rattle.ks_law_topology.proofs.Each.{Each, each_nothing, each_first, Each-append, Each-cond}
use Rattle.ks_def_tasks.proofs.Itself.{nothing_changes}
use Rattle.ks_law_settled.proofs.Nodes.{Among, among_left, among_right, Located, located, subscribed_keeps}

module _ (rules : Rules) (p : Plan) (a : Arrival) (there : Among a.topic (topics_of p)) (st : Store) where
  abbrev pub Goes : Sent → Type 0
  Goes s = Among s.topic (topics_of p)

  abbrev items : ℕ → Option StreamItem
  items = items_from a (λ n. None) 0 p.kinds

  -- ---- what is sent
  deltas_go : (n : ℕ) (ds : List (Key × Delta)) → Among (Repartition n) (topics_of p) → Each Goes (send_deltas n ds)
  deltas_go n [] h = each_nothing Goes
  deltas_go n (d ∷ ds) h = each_first Goes _ _ h (deltas_go n ds h)

  responses_go : (n : ℕ) (rs : List Sending) → Among (Responses n) (topics_of p) → Each Goes (send_responses n rs)
  responses_go n [] h = each_nothing Goes
  responses_go n (r ∷ rs) h = each_first Goes _ _ h (responses_go n rs h)

  subscriptions_go : (n : ℕ) (k : Key) (ss : List (Key × Subscription)) → Among (Subscriptions n) (topics_of p) → Each Goes (send_subscriptions n k ss)
  subscriptions_go n k [] h = each_nothing Goes
  subscriptions_go n k (s ∷ ss) h = each_first Goes _ _ h (subscriptions_go n k ss h)

  keyed_goes : (n : ℕ) (row : Row) (g : Option Key) → Among (Repartition n) (topics_of p) → Each Goes (keyed_to n row g)
  keyed_goes n row None h = each_nothing Goes
  keyed_goes n row (Some g) h = each_first Goes _ _ h (each_nothing Goes)

  regroup_goes : (by : Option (List ℕ)) (n : ℕ) (x : Option StreamItem) → Among (Repartition n) (topics_of p) → Each Goes (regroup by n x)
  regroup_goes by n None h = each_nothing Goes
  regroup_goes by n (Some x) h = keyed_goes n x.row (group_key by x) h

  answers_go : (n r : ℕ) (m : Option Message) → Among (Responses n) (topics_of p) → Each Goes (answer_one n st r m)
  answers_go n r None h = each_nothing Goes
  answers_go n r (Some (Asked b k s)) h = responses_go n _ h
  answers_go n r (Some _) h = each_nothing Goes

  module _ (olds news : Values) where
    through_goes : (by : Option (List ℕ)) (f n : ℕ) (through : Bool) → (through ≡ true → Among (Repartition n) (topics_of p)) → Each Goes (cond through (regroup by n (items f)) [])
    through_goes by f n true h = regroup_goes by n (items f) (h refl)
    through_goes by f n false h = each_nothing Goes

    join_goes : (fk : Fk) (part : Option ℕ) (n l r : ℕ) (key : Option Key) → Among (Subscriptions n) (topics_of p) → Among (Responses n) (topics_of p) → Each Goes (join_sends rules fk part n l r st olds news key)
    join_goes fk part n l r None hs hr = each_nothing Goes
    join_goes fk part n l r (Some k) hs hr = Each-append Goes _ _
        (Each-cond Goes (changed olds news l) _ _ (subscriptions_go n k (subscriptions rules.hash fk k part (row_in olds l) (row_in news l)) hs) (each_nothing Goes))
        (Each-cond Goes (changed olds news r) _ _ (responses_go n (answer_all (row_in news r) (fin.entries (st.hashes n k))) hr) (each_nothing Goes))

    node_goes : (n : ℕ) (k : Kind) → ((t : Topic) → Among t (through_topics n k) → Among t (topics_of p)) → Each Goes (sends_at rules a items st olds news n k)
    node_goes n (StreamAggregate f by field through) into =
        through_goes by f n through (λ e. into (Repartition n) (subst (λ b. Among (Repartition n) (cond b (Repartition n ∷ []) [])) (sym e) (inl refl)))
    node_goes n (Windowed f by w through) into =
        through_goes by f n through (λ e. into (Repartition n) (subst (λ b. Among (Repartition n) (cond b (Repartition n ∷ []) [])) (sym e) (inl refl)))
    node_goes n (TableAggregate f by field) into = deltas_go n (table_parts by field (row_in olds f) (row_in news f)) (into (Repartition n) (inl refl))
    node_goes n (ForeignKeyJoin l r fk kind s) into = Each-append Goes _ _
        (join_goes fk (a.names n) n l r (step_key a.item.message) (into (Subscriptions n) (inl refl)) (into (Responses n) (inr (inl refl))))
        (answers_go n r (arrived a (Subscriptions n)) (into (Responses n) (inr (inl refl))))
    node_goes n (StreamSource t) into = each_nothing Goes
    node_goes n (TableSource t) into = each_nothing Goes
    node_goes n (StreamFilter f x) into = each_nothing Goes
    node_goes n (TableFilter f x) into = each_nothing Goes
    node_goes n (StreamMap f s) into = each_nothing Goes
    node_goes n (TableMap f s) into = each_nothing Goes
    node_goes n (KeySelected f c) into = each_nothing Goes
    node_goes n (KeyJoin l r kind s) into = each_nothing Goes

    nodes_go : (n : ℕ) (ks : List Kind) → ((t : Topic) → Among t (by_node through_topics n ks) → Among t (topics_of p)) → Each Goes (over_nodes (sends_at rules a items st olds news) n ks)
    nodes_go n [] into = each_nothing Goes
    nodes_go n (k ∷ ks) into = Each-append Goes _ _
        (node_goes n k (λ t h. into t (among_left t (through_topics n k) (by_node through_topics (suc n) ks) h)))
        (nodes_go (suc n) ks (λ t h. into t (among_right t (through_topics n k) (by_node through_topics (suc n) ks) h)))

  pub sent_goes : Each Goes (over_nodes (sends_at rules a (items_from a (λ n. None) 0 p.kinds) st (olds_at st (step_key a.item.message)) (news_at rules p a (items_from a (λ n. None) 0 p.kinds) (olds_at st (step_key a.item.message)) (step_key a.item.message))) 0 p.kinds)
  sent_goes =
      let key = step_key a.item.message in
      nodes_go (olds_at st key) (news_at rules p a items (olds_at st key) key) 0 p.kinds
      (λ t h. among_left t (input_topics p ++ by_node through_topics 0 p.kinds) (by_node changelogs_of 0 p.kinds) (among_right t (input_topics p) (by_node through_topics 0 p.kinds) h))

  -- ---- what is written
  abbrev pub Kept : Written → Type 0
  Kept w = Among w.topic (by_node changelogs_of 0 p.kinds) × (is_changelog w.topic ≡ true)

  all_kept : (t : Topic) (ms : List Message) → (ms ≡ []) ⊎ Among t (by_node changelogs_of 0 p.kinds) → is_changelog t ≡ true → Each Kept (write_all t ms)
  all_kept t [] h log = each_nothing Kept
  all_kept t (m ∷ ms) (inl e) log = absurd cc
  all_kept t (m ∷ ms) (inr h) log = each_first Kept _ _ (h, log) (all_kept t ms (inr h) log)

  hashes_kept : (n : ℕ) → (hash_changes st n (arrived a (Subscriptions n)) ≡ []) ⊎ Among (HashChangelog n) (by_node changelogs_of 0 p.kinds)
  hashes_kept n = elim (same_topic a.topic (Subscriptions n)) as (λ b. same_topic a.topic (Subscriptions n) ≡ b → (hash_changes st n (cond b (Some a.item.message) None) ≡ []) ⊎ Among (HashChangelog n) (by_node changelogs_of 0 p.kinds)) [
    | true ↦ λ e. inr (subscribed_keeps p n (subst (λ t. Among t (topics_of p)) (topic-is a.topic (Subscriptions n) e) there))
    | false ↦ λ e. inl refl
  ] refl

  module _ (olds news : Values) (streams : (n : ℕ) (k : Kind) → slice_get p.kinds n ≡ Some k → is_stream k ≡ true → news n ≡ olds n) where
    stream_writes : (n : ℕ) (k : Kind) → slice_get p.kinds n ≡ Some k → is_stream k ≡ true → (counted_at a items st n k).changes ≡ [] →
        (value_changes (step_key a.item.message) (olds n) (news n) ++ (counted_at a items st n k).changes ≡ [])
    stream_writes n k at is none = ap₂ (λ l m. l ++ m) (ap (value_changes (step_key a.item.message) (olds n)) (streams n k at is) ∙ nothing_changes (step_key a.item.message) (olds n)) none

    values_kept : (n : ℕ) (k : Kind) → slice_get p.kinds n ≡ Some k → ((t : Topic) → Among t (changelogs_of n k) → Among t (by_node changelogs_of 0 p.kinds)) →
        (value_changes (step_key a.item.message) (olds n) (news n) ++ (counted_at a items st n k).changes ≡ []) ⊎ Among (Changelog n) (by_node changelogs_of 0 p.kinds)
    values_kept n (StreamSource t) at into = inl (stream_writes n (StreamSource t) at refl refl)
    values_kept n (StreamFilter f x) at into = inl (stream_writes n (StreamFilter f x) at refl refl)
    values_kept n (StreamMap f s) at into = inl (stream_writes n (StreamMap f s) at refl refl)
    values_kept n (KeySelected f c) at into = inl (stream_writes n (KeySelected f c) at refl refl)
    values_kept n (TableSource t) at into = inr (into (Changelog n) (inl refl))
    values_kept n (TableFilter f x) at into = inr (into (Changelog n) (inl refl))
    values_kept n (TableMap f s) at into = inr (into (Changelog n) (inl refl))
    values_kept n (StreamAggregate f by field through) at into = inr (into (Changelog n) (inl refl))
    values_kept n (TableAggregate f by field) at into = inr (into (Changelog n) (inl refl))
    values_kept n (Windowed f by w through) at into = inr (into (Changelog n) (inl refl))
    values_kept n (KeyJoin l r kind s) at into = inr (into (Changelog n) (inl refl))
    values_kept n (ForeignKeyJoin l r fk kind s) at into = inr (into (Changelog n) (inl refl))

    nodes_kept : (n : ℕ) (ks : List Kind) → Located p n ks → ((t : Topic) → Among t (by_node changelogs_of n ks) → Among t (by_node changelogs_of 0 p.kinds)) → Each Kept (over_nodes (changes_at a items st olds news) n ks)
    nodes_kept n [] at into = each_nothing Kept
    nodes_kept n (k ∷ ks) at into = Each-append Kept _ _
        (Each-append Kept _ _
        (all_kept (Changelog n) _ (values_kept n k at.0 (λ t h. into t (among_left t (changelogs_of n k) (by_node changelogs_of (suc n) ks) h))) refl)
        (all_kept (HashChangelog n) _ (hashes_kept n) refl))
        (nodes_kept (suc n) ks at.1 (λ t h. into t (among_right t (changelogs_of n k) (by_node changelogs_of (suc n) ks) h)))

  -- streams store nothing
  stream_value : (olds news : Values) (n : ℕ) (k : Kind) → is_stream k ≡ true → value_at rules a items olds news n k ≡ olds n
  stream_value olds news n (StreamSource t) is = refl
  stream_value olds news n (StreamFilter f x) is = refl
  stream_value olds news n (StreamMap f s) is = refl
  stream_value olds news n (KeySelected f c) is = refl
  stream_value olds news n (TableSource t) is = absurd (true≢false (sym is))
  stream_value olds news n (TableFilter f x) is = absurd (true≢false (sym is))
  stream_value olds news n (TableMap f s) is = absurd (true≢false (sym is))
  stream_value olds news n (StreamAggregate f by field through) is = absurd (true≢false (sym is))
  stream_value olds news n (TableAggregate f by field) is = absurd (true≢false (sym is))
  stream_value olds news n (Windowed f by w through) is = absurd (true≢false (sym is))
  stream_value olds news n (KeyJoin l r kind s) is = absurd (true≢false (sym is))
  stream_value olds news n (ForeignKeyJoin l r fk kind s) is = absurd (true≢false (sym is))

  abbrev Streams : Values → Values → Type 0
  Streams olds news = (c : ℕ) (k : Kind) → slice_get p.kinds c ≡ Some k → is_stream k ≡ true → news c ≡ olds c

  streams_stay : (olds news : Values) (n : ℕ) (ks : List Kind) → Located p n ks → Streams olds news → Streams olds (values_from rules a items olds news n ks)
  streams_stay olds news n [] at h = h
  streams_stay olds news n (k ∷ ks) at h = streams_stay olds (with_number news n (value_at rules a items olds news n k)) (suc n) ks at.1 one
    where
      one : Streams olds (with_number news n (value_at rules a items olds news n k))
      one c x there is = elim (nat_eq c n) as (λ b. nat_eq c n ≡ b → cond b (value_at rules a items olds news n k) (news c) ≡ olds c) [
        | true ↦ λ e.
            let same : c ≡ n = (Decides-eqb c n).0 e in
            let found : Some x ≡ Some k = sym there ∙ ap (slice_get p.kinds) same ∙ at.0 in
            let kind : x ≡ k = cc in
            stream_value olds news n k (ap is_stream (sym kind) ∙ is) ∙ ap olds (sym same)
        | false ↦ λ e. h c x there is
      ] refl

  streams_at : (key : Option Key) → Streams (olds_at st key) (news_at rules p a items (olds_at st key) key)
  streams_at None = λ c k there is. refl
  streams_at (Some k) = streams_stay (olds_at st (Some k)) (olds_at st (Some k)) 0 p.kinds (located p [] p.kinds refl 0 refl) (λ c x there is. refl)

  pub written_kept : Each Kept (over_nodes (changes_at a (items_from a (λ n. None) 0 p.kinds) st (olds_at st (step_key a.item.message)) (news_at rules p a (items_from a (λ n. None) 0 p.kinds) (olds_at st (step_key a.item.message)) (step_key a.item.message))) 0 p.kinds)
  written_kept =
      let key = step_key a.item.message in
      nodes_kept (olds_at st key) (news_at rules p a items (olds_at st key) key) (streams_at key) 0 p.kinds (located p [] p.kinds refl 0 refl) (λ t h. h)
