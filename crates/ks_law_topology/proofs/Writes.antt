-- A step's changelog records are for the changelogs of its own task.
use Rattle.std.proofs.Common.{◌≡◌, ℕ, suc, Bool, true, false, cond, List, [], ◌∷◌, ◌++◌, Option, Some, None, refl, sym, ap, ap₂, subst, ◌∙◌, ◌⊎◌, inl, inr, ⊎_elim}
use Rattle.ks_wire.specs.declared.values.Delta.{Delta}
use Rattle.ks_plan.specs.declared.node.Topic.{Topic}
use Rattle.ks_plan.specs.declared.node.Topic.TheVariants.{Repartition, Subscriptions, Changelog, HashChangelog}
use Rattle.ks_plan.specs.Plan.{Plan, Kind}
use Rattle.ks_plan.specs.Plan.Kind.{StreamSource, TableSource, StreamFilter, TableFilter, StreamMap, TableMap, KeySelected, StreamAggregate, TableAggregate, Windowed, KeyJoin, ForeignKeyJoin}
use Rattle.ks_plan.specs.Layout.{same_topic, reads, sub_of}
use Rattle.ks_expr.specs.Eval.{Row}
use Rattle.ks_expr.specs.declared.terms.Fk.{Fk}
use Rattle.ks_def_runs.specs.FinMap as fin
use Rattle.ks_query.specs.Streams.{Key, StreamItem, group_key}
use Rattle.ks_query.specs.Aggregates.{table_parts}
use Rattle.ks_def_tasks.specs.Messages.{Subscription, Message, Store, Rules}
use Rattle.ks_def_tasks.specs.Messages.Message.{Asked}
use Rattle.ks_def_tasks.specs.Bytes.{key_bytes}
use Rattle.ks_def_tasks.specs.Foreign.{subscriptions, answer_all, Sending}
use Rattle.ks_def_tasks.specs.Windowed.{count_item}
use Rattle.ks_def_tasks.specs.Step.{Arrival, Sent, Written, Values, row_in, changed, arrived, step_key, sends_at, join_sends, regroup, keyed_to, send_deltas, send_subscriptions, send_responses, answer_one, write_all, value_changes, counted_at, hash_changes, changes_at, over_nodes, items_from, item_keyed, olds_at, news_at}
use Rattle.ks_def_tasks.specs.Tasks.{taker, is_changelog}
use Rattle.ks_law_topology.proofs.Fits.{Fits, NodeFits, EachFits}
use Rattle.ks_law_topology.proofs.Placed.{topic-is, Owned, ItemsOwned, items_owned, values_owned}
use Rattle.ks_def_tasks.proofs.Itself.{nothing_changes}

-- ---- what is sent goes to no changelog, and by its key; to a topic of subscriptions, a subscription alone
abbrev pub IsAsking : Topic → Message → Type 0
IsAsking (Subscriptions n) (Asked b k s) = Unit {0}
IsAsking (Subscriptions n) m = ⊥
IsAsking t m = Unit {0}

abbrev pub Through : List Sent → Type 0
Through [] = Unit {0}
Through (s ∷ xs) = ((is_changelog s.topic ≡ false) × (key_bytes s.message ≡ Some s.key) × IsAsking s.topic s.message) × Through xs

Through-append : (xs ys : List Sent) → Through xs → Through ys → Through (xs ++ ys)
Through-append [] ys a b = b
Through-append (x ∷ xs) ys a b = (a.0, Through-append xs ys a.1 b)

Through-cond : (b : Bool) (xs : List Sent) → Through xs → Through (cond b xs [])
Through-cond true xs h = h
Through-cond false xs h = tt

through_deltas : (n : ℕ) (ds : List (Key × Delta)) → Through (send_deltas n ds)
through_deltas n [] = tt
through_deltas n (d ∷ ds) = ((refl, refl, tt), through_deltas n ds)

through_subscriptions : (n : ℕ) (k : Key) (ss : List (Key × Subscription)) → Through (send_subscriptions n k ss)
through_subscriptions n k [] = tt
through_subscriptions n k (s ∷ ss) = ((refl, refl, tt), through_subscriptions n k ss)

through_responses : (n : ℕ) (rs : List Sending) → Through (send_responses n rs)
through_responses n [] = tt
through_responses n (r ∷ rs) = ((refl, refl, tt), through_responses n rs)

through_keyed : (n : ℕ) (row : Row) (g : Option Key) → Through (keyed_to n row g)
through_keyed n row None = tt
through_keyed n row (Some g) = ((refl, refl, tt), tt)

through_regroup : (by : Option (List ℕ)) (n : ℕ) (x : Option StreamItem) → Through (regroup by n x)
through_regroup by n None = tt
through_regroup by n (Some x) = through_keyed n x.row (group_key by x)

through_one : (n : ℕ) (st : Store) (r : ℕ) (x : Option Message) → Through (answer_one n st r x)
through_one n st r None = tt
through_one n st r (Some (Asked b q s)) = through_responses n _
through_one n st r (Some _) = tt

through_join : (rules : Rules) (fk : Fk) (part : Option ℕ) (n l r : ℕ) (st : Store) (olds news : Values) (k : Option Key) → Through (join_sends rules fk part n l r st olds news k)
through_join rules fk part n l r st olds news None = tt
through_join rules fk part n l r st olds news (Some k) = Through-append _ _
    (Through-cond (changed olds news l) _ (through_subscriptions n k (subscriptions rules.hash fk k part (row_in olds l) (row_in news l))))
    (Through-cond (changed olds news r) _ (through_responses n (answer_all (row_in news r) (fin.entries (st.hashes n k)))))

through_sends : (rules : Rules) (a : Arrival) (items : ℕ → Option StreamItem) (st : Store) (olds news : Values) (n : ℕ) (k : Kind) → Through (sends_at rules a items st olds news n k)
through_sends rules a items st olds news n (StreamAggregate f by field through) = Through-cond through _ (through_regroup by n (items f))
through_sends rules a items st olds news n (Windowed f by w through) = Through-cond through _ (through_regroup by n (items f))
through_sends rules a items st olds news n (TableAggregate f by field) = through_deltas n (table_parts by field (row_in olds f) (row_in news f))
through_sends rules a items st olds news n (ForeignKeyJoin l r fk kind s) =
    Through-append _ _ (through_join rules fk (a.names n) n l r st olds news (step_key a.item.message)) (through_one n st r (arrived a (Subscriptions n)))
through_sends rules a items st olds news n _ = tt

pub through_all : (rules : Rules) (a : Arrival) (items : ℕ → Option StreamItem) (st : Store) (olds news : Values) (n : ℕ) (ks : List Kind) → Through (over_nodes (sends_at rules a items st olds news) n ks)
through_all rules a items st olds news n [] = tt
through_all rules a items st olds news n (k ∷ ks) = Through-append _ _ (through_sends rules a items st olds news n k) (through_all rules a items st olds news (suc n) ks)

module _ (rules : Rules) (p : Plan) where
  -- all for changelogs of one subtopology
  abbrev pub OfSub : ℕ → List Written → Type 0
  OfSub sub [] = Unit {0}
  OfSub sub (w ∷ ws) = ((is_changelog w.topic ≡ true) × (reads p w.topic ≡ sub)) × OfSub sub ws

  OfSub-append : (sub : ℕ) (xs ys : List Written) → OfSub sub xs → OfSub sub ys → OfSub sub (xs ++ ys)
  OfSub-append sub [] ys a b = b
  OfSub-append sub (x ∷ xs) ys a b = (a.0, OfSub-append sub xs ys a.1 b)

  all_of : (sub : ℕ) (t : Topic) → is_changelog t ≡ true → reads p t ≡ sub → (ms : List Message) → OfSub sub (write_all t ms)
  all_of sub t log is [] = tt
  all_of sub t log is (m ∷ ms) = ((log, is), all_of sub t log is ms)

  written_of : (sub : ℕ) (t : Topic) → is_changelog t ≡ true → (ms : List Message) → (ms ≡ []) ⊎ (reads p t ≡ sub) → OfSub sub (write_all t ms)
  written_of sub t log ms (inl e) = subst (λ l. OfSub sub (write_all t l)) (sym e) tt
  written_of sub t log ms (inr is) = all_of sub t log is ms

  both_of : {A : Type 0} (xs ys : List Message) → (xs ≡ []) ⊎ A → (ys ≡ []) ⊎ A → (xs ++ ys ≡ []) ⊎ A
  both_of xs ys (inl e) (inl f) = inl (ap₂ (λ a b. a ++ b) e f)
  both_of xs ys (inl e) (inr a) = inr a
  both_of xs ys (inr a) h = inr a

  module _ (fits : Fits p) (a : Arrival) (sub : ℕ) (takes : taker p a.topic ≡ sub) (st : Store) where
    abbrev items : ℕ → Option StreamItem
    items = items_from a (λ n. None) 0 p.kinds

    pub owned : ItemsOwned rules p a (items_from a (λ n. None) 0 p.kinds)
    owned = items_owned rules p a (λ n. None) 0 p.kinds (λ c. inl refl) fits

    abbrev olds : Values
    olds = olds_at st (step_key a.item.message)

    abbrev news : Values
    news = news_at rules p a items olds (step_key a.item.message)

    pub kept : (key : Option Key) (c : ℕ) → (news_at rules p a items (olds_at st key) key c ≡ olds_at st key c) ⊎ Owned rules p a.topic c
    kept None c = inl refl
    kept (Some k) c = values_owned rules p a items owned (olds_at st (Some k)) (olds_at st (Some k)) 0 p.kinds (λ c. inl refl) fits c

    of_sub : (n : ℕ) → Owned rules p a.topic n → sub_of p n ≡ sub
    of_sub n o = sym o.sub ∙ takes

    pub values : (n : ℕ) → (value_changes (step_key a.item.message) (olds n) (news n) ≡ []) ⊎ (sub_of p n ≡ sub)
    values n = ⊎_elim
        (λ (e : news n ≡ olds n). inl (ap (value_changes (step_key a.item.message) (olds n)) e ∙ nothing_changes (step_key a.item.message) (olds n)))
        (λ (o : Owned rules p a.topic n). inr (of_sub n o))
        (kept (step_key a.item.message) n)

    -- what comes at a topic that the subtopology takes, or doesn't
    pub comes : {A : Type 0} (t : Topic) (f : Option Message → A) → (f (arrived a t) ≡ f None) ⊎ (taker p t ≡ sub)
    comes t f = elim (same_topic a.topic t) as (λ b. same_topic a.topic t ≡ b → (f (cond b (Some a.item.message) None) ≡ f None) ⊎ (taker p t ≡ sub)) [
      | true ↦ λ b. inr (ap (taker p) (sym (topic-is a.topic t b)) ∙ takes)
      | false ↦ λ b. inl refl
    ] refl

    pub counts : (n : ℕ) (k : Kind) → NodeFits p n k → ((counted_at a items st n k).changes ≡ []) ⊎ (sub_of p n ≡ sub)
    counts n (Windowed f by w true) fit = comes (Repartition n) (λ m. (count_item w (st.times n) (st.counts n) (item_keyed a.item.time m)).changes)
    counts n (Windowed f by w false) fit = ⊎_elim
        (λ (e : items f ≡ None). inl (ap (λ x. (count_item w (st.times n) (st.counts n) x).changes) e))
        (λ (o : Owned rules p a.topic f). let b = fit.1 refl in inr (sym b.sub ∙ of_sub f o))
        (owned f)
    counts n (StreamSource t) fit = inl refl
    counts n (TableSource t) fit = inl refl
    counts n (StreamFilter f x) fit = inl refl
    counts n (TableFilter f x) fit = inl refl
    counts n (StreamMap f s) fit = inl refl
    counts n (TableMap f s) fit = inl refl
    counts n (KeySelected f k) fit = inl refl
    counts n (StreamAggregate f by field through) fit = inl refl
    counts n (TableAggregate f by field) fit = inl refl
    counts n (KeyJoin l r kind s) fit = inl refl
    counts n (ForeignKeyJoin l r fk kind s) fit = inl refl

    pub written_all : (n : ℕ) (ks : List Kind) → EachFits p n ks → OfSub sub (over_nodes (changes_at a items st olds news) n ks)
    written_all n [] fit = tt
    written_all n (k ∷ ks) fit = OfSub-append sub (changes_at a items st olds news n k) _
        (OfSub-append sub (write_all (Changelog n) _) _
        (written_of sub (Changelog n) refl _ (both_of _ _ (values n) (counts n k fit.0)))
        (written_of sub (HashChangelog n) refl _ (comes (Subscriptions n) (hash_changes st n))))
        (written_all (suc n) ks fit.1)
